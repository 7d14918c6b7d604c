use Rattle.std.proofs.Common.{arith, drop}
use Rattle.segment_postings.proofs.BlockLists.{few_ascend}
use Rattle.segment_postings.proofs.HeldBlocks.{none_summed}
use Rattle.segment_postings.proofs.Passing.{readable_ascends}
use Rattle.segment_postings.specs.Reading.{docs_at}
use Rattle.segment_postings.proofs.block_segment_postings.BlockSegmentPostings.begin.Goals as goal

pub decode_block-len-requires : goal.decode_block-len-requires
decode_block-len-requires c = (c.args.reads_positions, c.requires)

pub invariant_of-result : goal.invariant_of-result
invariant_of-result c =
    let ascends = readable_ascends c.args.reads_counts c.args.reads_positions 0 c.args.skips.left c.args.skips.rest (drop c.args.skips.byte_offset c.args.bytes.now) c.requires.readable in
    let few = few_ascend 0 (docs_at 0 c.args.skips c.args.bytes.now) ascends in
    let one = c.count_block.ensures in
    record { stands = c.requires; held = c.decode_block-len.ensures; ascends = ascends; few = omega (arith, few, one); adds_up = none_summed c.decode_block-len.new.counts; found = tt }
