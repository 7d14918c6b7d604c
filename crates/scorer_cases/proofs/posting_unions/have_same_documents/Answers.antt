use Rattle.std.proofs.Common.{arith}
use borrow.Author.Tests.{eqb-true}
use Rattle.scorer_cases.proofs.SameDocuments.{same-before, same-ended}
use Rattle.scorer_cases.proofs.posting_unions.have_same_documents.Goals as goal

pub loop-doc-preserved : goal.loop-doc-preserved
loop-doc-preserved g c =
    let inv = c.loop-doc.invariant in
    let es = g.A.DocSet.entries c.loop-doc.first in
    let fs = g.B.DocSet.entries c.loop-doc.second in
    record {
      at = c.advance-doc.ensures.at;
      back = λ same. inv.back (same-before es fs _ _ (let at = inv.at in omega (arith, at)) (let at = inv.at in let other = c.doc.ensures in omega (arith, at, other)) c.advance-doc.ensures.rest c.advance.ensures.rest same);
    }

pub returns : goal.returns
returns g c = λ e.
    let inv = c.loop-doc.invariant in
    let at = inv.at in
    let end = c.doc-2.ensures in
    let is = eqb-true c.doc-2.result 2147483647 e in
    inv.back (same-ended (g.A.DocSet.entries c.loop-doc.first) (g.B.DocSet.entries c.loop-doc.second) (g.met.A.DocSet.rising c.loop-doc.first) (g.met.B.DocSet.rising c.loop-doc.second) (omega (arith, at)) (omega (arith, end, is)))
