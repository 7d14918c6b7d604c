use Rattle.std.proofs.Common.{subst}
use Rattle.segment_postings.specs.Ahead.{IsAhead}
use Rattle.segment_postings.specs.Reading.{HasPassed, StandsIn}
use Rattle.codes.specs.SkipBlocks.{Skips}
use Rattle.segment_postings.proofs.block_segment_postings.BlockSegmentPostings.found_block.Goals as goal

pub returns-clause-passed : goal.returns-clause-passed
returns-clause-passed c =
    let self = c.args.self.now in
    let From : Skips → Type 0 = λ s. StandsIn self.reads_counts self.reads_positions self.before s self.bytes.now → IsAhead self.reads_counts self.reads_positions self.before s self.ahead self.bytes.now → HasPassed self.reads_counts self.reads_positions c.args.target self.before s c.find_block-before.result c.find_block-before.new.skips self.bytes.now in
    subst From c.copied-skips.ensures (c.find_block-before.ensures.passed self.reads_counts self.reads_positions self.bytes.now) self.stands self.found
