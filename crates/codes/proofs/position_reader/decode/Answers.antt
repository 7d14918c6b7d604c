use Rattle.std.proofs.Common.{arith, drop, length, length-drop, take, ◌-◌, ◌≡◌}
use Rattle.std.proofs.lemmas.List.{take_rest}
use Rattle.codes.proofs.PositionBlocks.{block_decoded, offset_within, rest_decoded, rest_listed}
use Rattle.codes.proofs.position_reader.decode.Goals as goal

pub uncompress_block_unsorted-requires-clause-room : goal.uncompress_block_unsorted-requires-clause-room
uncompress_block_unsorted-requires-clause-room c =
    let within = offset_within c.args.widths.now c.args.block c.if-block-widths.true in
    let room = c.requires.blocks.room in
    let offset = c.requires.offset in
    let left : length (take (length c.args.packed.now - c.args.at) (drop c.args.at c.args.packed.now)) ≡ length c.args.packed.now - c.args.at = (rw take_rest (length-drop c.args.at c.args.packed.now)) in
    omega (arith, left)

pub uncompress_vint_unsorted_until_end-requires : goal.uncompress_vint_unsorted_until_end-requires
uncompress_vint_unsorted_until_end-requires c = record { layout = rest_listed c.args.widths.now c.args.packed.now c.args.block c.args.at c.requires.offset c.if-block-widths.false c.requires.blocks.rest }

pub returns-then-block-widths : goal.returns-then-block-widths
returns-then-block-widths c = block_decoded c.args.widths.now c.args.packed.now _ c.args.block c.args.at (λ i. omega (arith, c.type_inv.packed i)) c.requires.offset c.if-block-widths.true c.uncompress_block_unsorted.ensures.numbers

pub returns-else-block-widths : goal.returns-else-block-widths
returns-else-block-widths c = rest_decoded c.args.widths.now c.args.packed.now _ c.args.block c.args.at (λ i. omega (arith, c.type_inv.packed i)) c.requires.offset c.requires.within c.if-block-widths.false c.uncompress_vint_unsorted_until_end.ensures.numbers
