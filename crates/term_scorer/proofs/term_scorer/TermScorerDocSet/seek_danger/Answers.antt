use Rattle.std.proofs.Common.{arith}
use Rattle.docsets.proofs.ScoredEntryLaws.{danger-rescored, danger-rest}
use Rattle.segment_postings.specs.Cursors.{entries_left}
use Rattle.segment_postings.specs.CursorsLaws.{rising_left}
use Rattle.term_scorer.proofs.BlockBounds.{moved_bounded}
use Rattle.term_scorer.specs.Similarities.{similarity_data}
use Rattle.term_scorer.specs.TermScores.{entry_score}
use Rattle.term_scorer.proofs.TermScoreLaws.{bound-rest}
use Rattle.term_scorer.proofs.term_scorer.TermScorerDocSet.seek_danger.Goals as goal

pub invariant_of-self : goal.invariant_of-self
invariant_of-self c =
    let old = c.args.self.now.postings in
    let new = c.seek_danger.new.self in
    let le = bound-rest (entries_left new) (entries_left old) (danger-rest c.seek_danger.result c.args.target (entries_left old) (entries_left new) (rising_left old) c.seek_danger.ensures.answer) in
    let covered = c.args.self.now.covered in
    record {
      covered = omega (arith, le, covered);
      bounded = moved_bounded c.args.self.now.fieldnorm_reader _ c.args.self.now.postings c.seek_danger.new.self c.seek_danger.ensures.moved c.args.self.now.bounded;
    }

pub returns-clause-answer : goal.returns-clause-answer
returns-clause-answer c =
    let f = entry_score (similarity_data c.args.self.now.similarity) c.args.self.now.fieldnorm_reader in
    danger-rescored f c.seek_danger.result c.args.target (entries_left c.args.self.now.postings) (entries_left c.seek_danger.new.self) c.seek_danger.ensures.answer
