use Rattle.std.proofs.Common.{ap, arith, sym, ◌∙◌}
use Rattle.docsets.proofs.EntryLaws.{IsRest-from}
use Rattle.docsets.specs.ScoredEntries.{rescored_by}
use Rattle.docsets.proofs.ScoredEntryLaws.{IsRest-along, from-rescored}
use Rattle.segment_postings.specs.Cursors.{entries_left}
use Rattle.segment_postings.specs.CursorsLaws.{rising_left}
use Rattle.term_scorer.proofs.BlockBounds.{moved_bounded}
use Rattle.term_scorer.specs.Similarities.{similarity_data}
use Rattle.term_scorer.specs.TermScores.{entry_score}
use Rattle.term_scorer.proofs.TermScoreLaws.{bound-rest}
use Rattle.term_scorer.proofs.term_scorer.TermScorerDocSet.seek.Goals as goal

pub invariant_of-self : goal.invariant_of-self
invariant_of-self c =
    let es = entries_left c.args.self.now.postings in
    let le = bound-rest (entries_left c.seek.new.self) es (IsRest-along (entries_left c.seek.new.self) _ es c.seek.ensures.rest (IsRest-from c.args.target 0 es (rising_left c.args.self.now.postings))) in
    let covered = c.args.self.now.covered in
    record {
      covered = omega (arith, le, covered);
      bounded = moved_bounded c.args.self.now.fieldnorm_reader _ c.args.self.now.postings c.seek.new.self c.seek.ensures.moved c.args.self.now.bounded;
    }

pub returns-clause-rest : goal.returns-clause-rest
returns-clause-rest c =
    let f = entry_score (similarity_data c.args.self.now.similarity) c.args.self.now.fieldnorm_reader in
    ap (rescored_by f) c.seek.ensures.rest ∙ sym (from-rescored f c.args.target (entries_left c.args.self.now.postings))
