use Rattle.std.proofs.Common.{ap, arith, length}
use Rattle.codes.proofs.PositionsOpened.{all_counted}
use Rattle.codes.proofs.position_reader.PositionReader.num_positions.Goals as goal

pub returns : goal.returns
returns c =
    let all = all_counted c.self.inside.widths.now c.self.inside.packed.now _ c.decode.ensures in
    let rest = ap length c.output_array.ensures in
    let view = ap length c.self.view_is in
    omega (arith, all, rest, view)
