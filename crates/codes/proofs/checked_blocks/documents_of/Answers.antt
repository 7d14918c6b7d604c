-- Nothing is summed yet.
use Rattle.std.proofs.Common.{ap, arith, refl, ◌^◌}
use Rattle.codes.proofs.BitWindows.{digits-zeros}
use Rattle.layouts.specs.Deltas.{documents}
use Rattle.codes.proofs.checked_blocks.documents_of.Goals as goal

pub loop-i-init : goal.loop-i-init
loop-i-init c = record {
  told = ap (λ n. documents n c.args.deltas.now) c.least_after-next.ensures.least;
  small = digits-zeros (2 ^ 32) 128 (omega arith);
  next = c.least_after-next.ensures.few;
  long = refl;
}
