-- What was passed and what is left make the whole.
use Rattle.std.proofs.Common.{drop, length, ◌+◌, ◌≡◌, ◌≤◌}
use Rattle.definitions.specs.Dates.{month_and_day}
use Rattle.values_json.specs.DateParts.{month_and_day_in}
use Rattle.values_json.proofs.civil.month_and_day.Given as goal

abbrev pub invariant-loop-days : goal.invariant-loop-days
invariant-loop-days l = (month_and_day l.month (drop l.days-index l.days-items) l.left ≡ month_and_day_in l.year l.day) × (l.month ≡ 1 + l.days-index) × (l.left ≤ l.day) × (length l.days-items ≡ 12)
