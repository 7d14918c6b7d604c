-- Where two ids are next to one another, the one that fits is the greatest.
use Rattle.std.proofs.Common.{◌+◌, ◌<◌, ◌≡◌, ◌≤◌, arith, subst, sym, ℕ}
use Rattle.definitions.specs.Lengths.{id_to_fieldnorm}
use Rattle.codes.proofs.LengthsOfIds.{next_too_long}
use Rattle.codes.proofs.fieldnorm_code.fieldnorm_to_id.Goals as goal

pub returns : goal.returns
returns c =
    let loop = c.loop-above in
    let next : loop.above ≡ loop.fits + 1 = omega (arith, loop.invariant.apart, c.loop-above-test.false) in
    let last : loop.fits ≤ 255 = omega (arith, next, loop.invariant.last) in
    let long = λ (h : loop.fits < 255). subst (λ (id : ℕ). c.args.fieldnorm < id_to_fieldnorm id) next (loop.invariant.long (omega (arith, h, next))) in
    sym (next_too_long c.args.fieldnorm loop.fits last loop.invariant.short long)
