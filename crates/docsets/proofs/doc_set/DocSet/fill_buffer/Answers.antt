use Rattle.std.proofs.Common.{ap, arith, drop, length, map, sym, ◌∙◌, ◌≡◌}
use Rattle.std.proofs.lemmas.List.{drop-drop, drop_all, length-set, take_all}
use Rattle.docsets.proofs.FirstDocuments.{all_given, document_written, one_more}
use Rattle.docsets.specs.Entries.{Entry, first}
use Rattle.docsets.proofs.EntryLaws.{first_at_most}
use Rattle.docsets.proofs.doc_set.DocSet.fill_buffer.Given.{Over}
use Rattle.docsets.proofs.doc_set.DocSet.fill_buffer.Goals.{Then-doc-eq-TERMINATED}
use Rattle.docsets.proofs.doc_set.DocSet.fill_buffer.Goals as goal

pub loop-filled-preserved : goal.loop-filled-preserved
loop-filled-preserved g c =
    let inv = c.loop-filled.invariant in
    let all = g.Self.DocSet.entries c.args.self.now in
    let top = first_at_most 0 (g.Self.DocSet.entries c.loop-filled.self) (g.met.Self.DocSet.rising c.loop-filled.self) in
    let at = inv.at in
    let same_doc : first (g.Self.DocSet.entries c.loop-filled.self) ≡ first (drop c.loop-filled.filled (g.Self.DocSet.entries c.args.self.now)) = ap first inv.rest in
    record {
      at = c.advance-doc.ensures.at;
      some = (let more = one_more c.loop-filled.filled (g.Self.DocSet.entries c.args.self.now) (omega (arith, top, at, same_doc)) in omega (arith, more));
      rest = c.advance-doc.ensures.rest ∙ (ap (drop 1) inv.rest ∙ drop-drop 1 c.loop-filled.filled (g.Self.DocSet.entries c.args.self.now));
      written = document_written c.loop-filled.filled c.loop-filled.doc c.loop-filled.buffer (g.Self.DocSet.entries c.args.self.now) (g.Self.DocSet.entries c.loop-filled.self) inv.rest inv.at (omega (arith, top, at)) (let long = inv.long in omega (arith, long)) inv.written;
      long = length-set c.loop-filled.buffer c.loop-filled.filled c.loop-filled.doc ∙ inv.long;
    }

all_filled : (g : Over) (c : Then-doc-eq-TERMINATED g) → length (g.Self.DocSet.entries c.args.self.now) ≡ c.loop-filled.filled
all_filled g c =
    let some = c.loop-filled.invariant.some in
    let at = c.loop-filled.invariant.at in
    let given = all_given c.loop-filled.filled (g.Self.DocSet.entries c.args.self.now) (g.Self.DocSet.entries c.loop-filled.self) c.loop-filled.invariant.rest (g.met.Self.DocSet.rising c.loop-filled.self) (omega (arith, at)) in
    omega (arith, some, given)

pub returns-then-doc-eq-TERMINATED-clause-len : goal.returns-then-doc-eq-TERMINATED-clause-len
returns-then-doc-eq-TERMINATED-clause-len g c = let all = all_filled g c in omega (arith, all)

pub returns-then-doc-eq-TERMINATED-clause-written : goal.returns-then-doc-eq-TERMINATED-clause-written
returns-then-doc-eq-TERMINATED-clause-written g c =
    let all = all_filled g c in
    let whole = g.Self.DocSet.entries c.args.self.now in
    c.loop-filled.invariant.written ∙ ap (map (λ (e : Entry). e.doc)) (take_all c.loop-filled.filled (g.Self.DocSet.entries c.args.self.now) (omega (arith, all)) ∙ sym (take_all 64 (g.Self.DocSet.entries c.args.self.now) (omega (arith, all))))

pub returns-then-doc-eq-TERMINATED-clause-rest : goal.returns-then-doc-eq-TERMINATED-clause-rest
returns-then-doc-eq-TERMINATED-clause-rest g c =
    let all = all_filled g c in
    c.loop-filled.invariant.rest ∙ (drop_all c.loop-filled.filled (g.Self.DocSet.entries c.args.self.now) (omega (arith, all)) ∙ sym (drop_all 64 (g.Self.DocSet.entries c.args.self.now) (omega (arith, all))))
