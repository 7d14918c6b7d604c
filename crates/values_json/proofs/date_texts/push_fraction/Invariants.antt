-- The digits that are left write the same fraction.
use Rattle.std.proofs.Common.{◌<◌, ◌^◌, ◌≡◌, ◌≤◌}
use Rattle.definitions.specs.Dates.{padded, without_last_zeros}
use Rattle.values_json.proofs.date_texts.push_fraction.Given as goal

abbrev pub invariant-loop-digits : goal.invariant-loop-digits
invariant-loop-digits l = (without_last_zeros (padded l.width l.digits) ≡ without_last_zeros (padded 9 l.nanos)) × (l.digits < 10 ^ l.width) × (0 < l.digits) × (0 < l.width) × (l.width ≤ 9)

abbrev pub decreases-loop-digits : goal.decreases-loop-digits
decreases-loop-digits l = l.width
