use Rattle.std.proofs.Common.{arith}
use Rattle.codes.proofs.PositionBlocks.{offset_at_most}
use Rattle.codes.proofs.position_reader.load.Goals as goal
use Rattle.codes.proofs.position_reader.load.Goals.{then-wanted-block-2, else-wanted-block-2}

pub decode-requires-clause-begins : goal.decode-requires-clause-begins
decode-requires-clause-begins c =
    let most = offset_at_most c.args.widths.now c.args.wanted in
    let room = c.requires.holds.blocks.room in
    elim c.if-wanted-block-2.branch [ then-wanted-block-2 w ↦ (let is = w.at-is in let h = w.offset_of.ensures in omega arith) | else-wanted-block-2 w ↦ (let is = w.at-is in let h = w.offset_of-else-wanted-block-2.ensures in omega arith) ]
