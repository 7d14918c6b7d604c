-- At the first month all days are left.
use Rattle.std.proofs.Common.{List, ap, arith, refl, length, ℕ}
use Rattle.definitions.specs.Dates.{month_and_day}
use Rattle.values_json.specs.DateParts.{month_and_day_in}
use Rattle.values_json.proofs.civil.month_and_day.Goals as goal

pub loop-days-init : goal.loop-days-init
unfolding month_and_day_in
loop-days-init c = (ap (λ (ls : List ℕ). month_and_day 1 ls c.args.day) c.month_lengths.ensures, refl, omega arith, ap (length {A = ℕ}) c.month_lengths.ensures)
