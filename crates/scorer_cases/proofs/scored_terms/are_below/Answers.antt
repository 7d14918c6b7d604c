use Rattle.std.proofs.Common.{arith, sym, ◌∙◌}
use Rattle.docsets.proofs.EntryLaws.{none_left}
use Rattle.segment_postings.specs.Cursors.{entries_left}
use Rattle.segment_postings.specs.CursorsLaws.{rising_left}
use borrow.Author.Tests.{eqb-true}
use Rattle.scorer_cases.proofs.scored_terms.are_below.Goals as goal

pub returns : goal.returns
returns c = λ e.
    let at = eqb-true c.seek.result 2147483647 e in
    sym c.seek.ensures.rest ∙ none_left 0 (entries_left c.seek.new.self) (rising_left c.seek.new.self) (let end = c.seek.ensures.at in omega (arith, at, end))
