use Rattle.std.proofs.Common.{List, arith, subst, sym, ℕ}
use Rattle.codes.proofs.PositionsPut.{goes_all}
use Rattle.layouts.specs.Positions.{AreBlocks}
use Rattle.codes.proofs.position_serializer.put_blocks.Goals as goal

pub returns : goal.returns
returns c =
    let P : List ℕ → Type 0 = λ xs. AreBlocks c.loop-rest.widths.items c.args.numbers.now xs in
    subst P (sym c.in_ok-compress_vint_unsorted.ensures) (goes_all c.args.numbers.now c.loop-rest.widths.items c.loop-rest.packed.items c.loop-rest.rest.now c.loop-rest.invariant (omega arith))
