use Rattle.std.proofs.Common.{arith, get_or, refl, subst, sym, ◌*◌, ◌+◌, ◌≡◌, ℕ}
use Rattle.codes.proofs.CheckedPositions.{Checked, block_checked, no_width}
use Rattle.codes.proofs.position_reader.checked_blocks.Goals as goal

pub returns-then-width-gt31-clause-err : goal.returns-then-width-gt31-clause-err
returns-then-width-gt31-clause-err c = (refl, no_width c.args.widths.now c.args.packed.now c.loop-width.width-index c.loop-width.at c.loop-width.invariant c.loop-width-test.true c.if-width-gt31.true)

pub loop-width-preserved : goal.loop-width-preserved
loop-width-preserved c =
    let read = c.in_ok-consumed.ensures.ok in
    let size : c.in_ok-consumed.consumed ≡ 16 * get_or c.args.widths.now c.loop-width.width-index 0 = read.0 in
    let few = c.if-width-gt31.false in
    let P : ℕ → Type 0 = λ n. Checked c.args.widths.now c.args.packed.now (c.loop-width.width-index + 1) (c.loop-width.at + n) in
    subst P (sym size) (block_checked c.args.widths.now c.args.packed.now _ c.loop-width.width-index c.loop-width.at (λ i. omega (arith, c.type_inv.packed i)) c.loop-width.invariant c.loop-width-test.true (omega (arith, few)) read.1)
