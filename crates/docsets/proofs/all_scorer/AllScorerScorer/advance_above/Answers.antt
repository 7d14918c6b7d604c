use Rattle.std.proofs.Common.{List, subst, sym, to_z-of_z, ◌-◌}
use Rattle.std.specs.Prelude.{drop, pos}
use Rattle.definitions.specs.Postings.{terminated}
use Rattle.docsets.proofs.RescoredBounds.{not_below, passes_one, passes_ones}
use Rattle.docsets.proofs.ScoredEntryLaws.{none-all}
use Rattle.docsets.specs.Bounds.{PassesLow}
use Rattle.docsets.specs.Entries.{Entry}
use Rattle.docsets.specs.ScoredEntries.{all_from}
use Rattle.docsets.specs.ScoredEntryLaws.{rising_all}
use Rattle.docsets.proofs.all_scorer.AllScorerScorer.advance_above.Goals as goal

pub returns-then-threshold-lt1-clause-passes : goal.returns-then-threshold-lt1-clause-passes
returns-then-threshold-lt1-clause-passes c =
    let s = c.args.self.now in
    passes_one c.args.threshold (all_from s.doc (s.max_doc - s.doc)) _ (rising_all s.doc s.max_doc s.small) c.advance.ensures.rest

pub returns-clause-passes : goal.returns-clause-passes
returns-clause-passes c =
    let s = c.args.self.now in
    let count = s.max_doc - s.doc in
    subst (λ (es : List Entry). PassesLow c.args.threshold (drop 1 (all_from s.doc count)) es) (sym (none-all terminated s.max_doc s.small))
    (passes_ones c.args.threshold s.doc count (rising_all s.doc s.max_doc s.small) (not_below _ c.args.threshold (pos 1) c.if-threshold-lt1.false (to_z-of_z c.ranges.threshold)))
