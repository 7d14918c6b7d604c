use Rattle.std.proofs.Common.{subst, sym}
use Rattle.segment_postings.specs.CountBounds.{TellCounts}
use Rattle.codes.specs.SkipBlocks.{Skips}
use Rattle.segment_postings.proofs.block_segment_postings.BlockSegmentPostings.greatest_count.Goals as goal

pub returns-clause-few : goal.returns-clause-few
returns-clause-few c = λ counts told. c.greatest_count.ensures.few counts (subst (λ (s : Skips). TellCounts c.args.num_positions s counts) (sym c.copied.ensures) told)
