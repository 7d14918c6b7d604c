use Rattle.std.proofs.Common.{length}
use Rattle.segment_postings.specs.Cursors.{entries_left}
use Rattle.term_scorer.proofs.TermScoreLaws.{bound-of}
use Rattle.term_scorer.proofs.term_scorer.TermScorer.new.Goals as goal

pub invariant_of-result : goal.invariant_of-result
invariant_of-result c = record { covered = bound-of (length c.args.fieldnorm_reader) (entries_left c.args.postings) c.requires.covered; bounded = c.requires.bounded }
