use Rattle.std.proofs.Common.{ap, arith, drop, sym, true, ◌∙◌, ◌≡◌}
use Rattle.docsets.specs.Entries.{first}
use Rattle.docsets.proofs.EntryLaws.{Rising-drop}
use Rattle.intersections.proofs.DifferenceLaws.{without-first, without-later}
use Rattle.intersections.specs.Differences.{without}
use Rattle.docsets.proofs.MemberLaws.{first-next}
use Rattle.intersections.proofs.exclude.skip_excluded.Goals as goal

pub returns-then-not-contains-clause-same : goal.returns-then-not-contains-clause-same
returns-then-not-contains-clause-same g c =
    let excludes = g.E.ExclusionSet.excludes in
    let at = c.loop-doc.invariant.at in
    without-later (excludes c.contains.new.self) (excludes c.loop-doc.exclusion) (g.D.DocSet.entries c.loop-doc.underlying) (g.met.D.DocSet.rising c.loop-doc.underlying) (λ d l. c.contains.ensures.later d (omega (arith, at, l))) ∙ c.loop-doc.invariant.same

pub loop-doc-preserved : goal.loop-doc-preserved
loop-doc-preserved g c =
    let excludes = g.E.ExclusionSet.excludes in
    let es = g.D.DocSet.entries c.loop-doc.underlying in
    let rises = g.met.D.DocSet.rising c.loop-doc.underlying in
    let at = c.loop-doc.invariant.at in
    let out : excludes c.loop-doc.exclusion (first es) ≡ true = ap (excludes c.loop-doc.exclusion) (sym at) ∙ sym c.if-not-contains.ensures.value in
    let next = first-next 0 es rises in
    record {
      at = c.advance-doc.ensures.at;
      same = ap (without (excludes c.contains.new.self)) c.advance-doc.ensures.rest
          ∙ (without-later (excludes c.contains.new.self) (excludes c.loop-doc.exclusion) (drop 1 es) (Rising-drop 1 0 es rises) (λ d l. c.contains.ensures.later d (omega (arith, at, next, l)))
          ∙ (sym (without-first (excludes c.loop-doc.exclusion) es out) ∙ c.loop-doc.invariant.same));
    }
