-- One id fits, and another is past the last or too long.
use Rattle.std.proofs.Common.{◌<◌, ◌-◌, ◌≤◌}
use Rattle.definitions.specs.Lengths.{id_to_fieldnorm}
use Rattle.codes.proofs.fieldnorm_code.fieldnorm_to_id.Given as goal

abbrev pub invariant-loop-above : goal.invariant-loop-above
invariant-loop-above l = record {
  apart : l.fits < l.above;
  last : l.above ≤ 256;
  short : id_to_fieldnorm l.fits ≤ l.fieldnorm;
  long : l.above < 256 → l.fieldnorm < id_to_fieldnorm l.above;
}

abbrev pub decreases-loop-above : goal.decreases-loop-above
decreases-loop-above l = l.above - l.fits
