use Rattle.std.proofs.Common.{arith, length, ◌<◌, ◌^◌}
use Rattle.codes.proofs.KnownPositions.{first_held, merely_taken, merely_there, read_there}
use Rattle.codes.proofs.position_reader.PositionReader.new.Goals as goal

pub unreachable-requires : goal.unreachable-requires
unreachable-requires c =
    let none = c.in_default.ensures.err.1 in
    let few : length c.args.bytes.now < 2 ^ 64 = omega arith in
    merely_taken c.args.bytes.now few none c.requires

pub decode-requires-clause-blocks : goal.decode-requires-clause-blocks
decode-requires-clause-blocks c =
    let few : length c.args.bytes.now < 2 ^ 64 = omega arith in
    merely_there c.args.bytes.now c.in-Ok.widths.now c.in-Ok.packed.now few (λ i. omega (arith, c.type_inv.bytes i)) c.in-Ok.ensures.ok c.requires

pub invariant_of-result : goal.invariant_of-result
invariant_of-result c =
    let few : length c.args.bytes.now < 2 ^ 64 = omega arith in
    first_held c.in-Ok.widths.now c.in-Ok.packed.now _ (merely_there c.args.bytes.now c.in-Ok.widths.now c.in-Ok.packed.now few (λ i. omega (arith, c.type_inv.bytes i)) c.in-Ok.ensures.ok c.requires) c.decode.ensures

pub returns : goal.returns
returns c =
    let few : length c.args.bytes.now < 2 ^ 64 = omega arith in
    read_there c.args.bytes.now c.in-Ok.widths.now c.in-Ok.packed.now few (λ i. omega (arith, c.type_inv.bytes i)) c.in-Ok.ensures.ok
