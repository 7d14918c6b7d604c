use Rattle.std.proofs.Common.{arith, length, rules, ◌+◌, ◌<◌, ◌^◌}
use Rattle.codes.proofs.PositionBlocks.{next_offset, offset_within}
use Rattle.codes.proofs.position_reader.offset_of.Goals as goal

pub loop-passed-preserved : goal.loop-passed-preserved
loop-passed-preserved c =
    let inside : c.loop-passed.passed < length c.args.widths.now = omega arith in
    let next = next_offset c.args.widths.now c.loop-passed.passed inside in
    let offset = c.loop-passed.invariant in
    let size = c.compressed_block_size-offset.ensures in
    omega arith

pub overflow_add-offset : goal.overflow_add-offset
overflow_add-offset c =
    let inside : c.loop-passed.passed < length c.args.widths.now = omega arith in
    let fits = offset_within c.args.widths.now c.loop-passed.passed inside in
    let few : c.loop-passed.offset + c.compressed_block_size-offset.result < 2 ^ 64 = (let offset = c.loop-passed.invariant in let size = c.compressed_block_size-offset.ensures in let most = c.requires.few in omega arith) in
    search rules
