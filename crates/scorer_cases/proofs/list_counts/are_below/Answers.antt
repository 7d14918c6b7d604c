use Rattle.std.proofs.Common.{arith, sym, ◌∙◌}
use Rattle.docsets.proofs.EntryLaws.{none_left}
use borrow.Author.Tests.{eqb-true}
use Rattle.scorer_cases.proofs.list_counts.are_below.Goals as goal

pub returns : goal.returns
returns g c = λ e.
    let at = eqb-true c.seek.result 2147483647 e in
    let left = g.S.DocSet.entries c.seek.new.self in
    sym c.seek.ensures.rest ∙ none_left 0 left (g.met.S.DocSet.rising c.seek.new.self) (let end = c.seek.ensures.at in omega (arith, at, end))
