-- Dates are read back from their texts.
use Rattle.std.proofs.Common.{List, Ok, Some, ap, ap₂, arith, codes, nat_abs, pos, refl, sym, ◌%◌, ◌*◌, ◌*ℤ◌, ◌+◌, ◌+ℤ◌, ◌++◌, ◌-◌, ◌-ℤ◌, ◌/◌, ◌<◌, ◌^◌, ◌∙◌, ◌≡◌, ◌≤◌, ℕ, ℤ}
use Rattle.std.proofs.lemmas.Int.{ints}
use Rattle.std.specs.Int.{w64}
use Rattle.std.specs.Prelude.{FitsSigned}
use Rattle.std.specs.Result.{result_ok}
use Rattle.definitions.specs.Dates.{date_in, date_text, days_before, fraction_text, nanos_before_1970, padded, time_text}
use Rattle.jiff_core.specs.Calendar.{day_count, days_from_civil, days_of_years}
use Rattle.jiff_core.specs.Date.{epoch_day}
use Rattle.jiff_core.specs.DateTime.{civil_nanos}
use Rattle.jiff_core.specs.Time.{time_nanos}
use Rattle.jiff_core.proofs.CalendarLemmas.{days_in_month_bounds}
use Rattle.values_json.specs.DateParts.{month_and_day_in, parts_text}
use Rattle.values_json.proofs.Calendar.{civil_parts, parts_of_date}
use Rattle.jiff_core.specs.declared.civil.date.Date.{Date}
use Rattle.jiff_core.specs.declared.civil.datetime.DateTime.{DateTime}
use Rattle.jiff_core.specs.declared.civil.time.Time.{Time}
use Rattle.jiff_core.specs.declared.timestamp.Timestamp.{Timestamp}
use Rattle.jiff_fmt.specs.Temporal.{parse_timestamp}
use Rattle.jiff_fmt.specs.Text.{pad2, pad4}
use Rattle.jiff_fmt.proofs.RoundTrip.{parse_timestamp-text}
use Rattle.inspect.proofs.ReadBack.Days.{IsDay, day_found_in, first_of_1970, year_exists}
use Rattle.inspect.proofs.ReadBack.DateTexts.{digits_2, digits_4, fraction_is}

-- the parts of a date's text
spelled : (year month day hour minute second fraction : List ℕ) → List ℕ
spelled year month day hour minute second fraction = (year ++ (codes "-" ++ (month ++ (codes "-" ++ day)))) ++ (codes "T" ++ ((hour ++ (codes ":" ++ (minute ++ (codes ":" ++ second)))) ++ (fraction ++ codes "Z")))

epoch_of : (date : Date) (year day : ℕ) → date.year ≡ pos year → day_count (pos year) date.month date.day ≡ days_of_years 10000 + day → epoch_day date ≡ pos day -ℤ pos (days_before 1970)
unfolding days_from_civil
epoch_of date year day is counted =
    let years = days_of_years 10000 in
    ap (λ y. pos (day_count y date.month date.day) -ℤ pos (day_count (pos 1970) 1 1)) is
    ∙ ap₂ (λ a b. pos a -ℤ pos b) counted first_of_1970
    ∙ (let same : pos (years + day) -ℤ pos (years + days_before 1970) ≡ pos day -ℤ pos (days_before 1970) = omega (arith, ints) in same)

-- a date and a time of day are read from their text
back_of : (z : ℤ) (day second nano year : ℕ) (p : ℕ × ℕ) → IsDay day year p → year ≤ 2262 → second < 86400 → nano < 10 ^ 9 → pos (day * (86400 * 10 ^ 9) + second * 10 ^ 9 + nano) ≡ z +ℤ pos nanos_before_1970 → FitsSigned w64 z
    → parse_timestamp (spelled (padded 4 year) (padded 2 p.0) (padded 2 p.1) (padded 2 (second / 3600)) (padded 2 (second / 60 % 60)) (padded 2 (second % 60)) (fraction_text nano)) ≡ Ok z
unfolding civil_nanos spelled
back_of z day second nano year p d recent within part is h =
    let date : Date = record {
      year = pos year;
      month = p.0;
      day = p.1;
      year_in = (omega (arith, ints), omega (arith, ints, recent));
      month_in = (d.month_least, d.month_most);
      day_in = (d.day_least, d.day_most);
    } in
    let time : Time = record {
      hour = second / 3600;
      minute = second / 60 % 60;
      second = second % 60;
      subsec_nanosecond = nano;
      hour_in = omega (arith, within);
      minute_in = omega arith;
      second_in = omega arith;
      subsec_in = part;
    } in
    let dt : DateTime = record { date = date; time = time } in
    let t : Timestamp = record { nanosecond = z; in_range = (omega (arith, ints, h), omega (arith, ints, h)) } in
    let epoch = epoch_of date year day refl d.counted in
    let nanos : civil_nanos dt ≡ z = ap (λ e. e *ℤ pos 86400000000000 +ℤ pos (time_nanos time)) epoch ∙ (let same : (pos day -ℤ pos (days_before 1970)) *ℤ pos 86400000000000 +ℤ pos (time_nanos time) ≡ z = omega (arith, ints, is) in same) in
    let month = d.month_most in
    let last = d.day_most in
    let lengths = days_in_month_bounds (pos year) p.0 in
    ap parse_timestamp
    (ap₂ (λ a b. spelled a b (padded 2 p.1) (padded 2 (second / 3600)) (padded 2 (second / 60 % 60)) (padded 2 (second % 60)) (fraction_text nano)) (digits_4 year (omega (arith, recent))) (digits_2 p.0 (omega (arith, month)))
    ∙ ap₂ (λ a b. spelled (pad4 year) (pad2 p.0) a b (padded 2 (second / 60 % 60)) (padded 2 (second % 60)) (fraction_text nano)) (digits_2 p.1 (omega (arith, last, lengths))) (digits_2 (second / 3600) (omega (arith, within)))
    ∙ ap₂ (λ a b. spelled (pad4 year) (pad2 p.0) (pad2 p.1) (pad2 (second / 3600)) a b (fraction_text nano)) (digits_2 (second / 60 % 60) (omega arith)) (digits_2 (second % 60) (omega arith))
    ∙ ap (spelled (pad4 year) (pad2 p.0) (pad2 p.1) (pad2 (second / 3600)) (pad2 (second / 60 % 60)) (pad2 (second % 60))) (fraction_is nano part))
    ∙ parse_timestamp-text dt t nanos

back_parts : (z : ℤ) (n : ℕ) → pos n ≡ z +ℤ pos nanos_before_1970 → FitsSigned w64 z → parse_timestamp (parts_text n) ≡ Ok z
unfolding spelled
back_parts z n is h =
    let day = n / (86400 * 10 ^ 9) in
    let y = year_exists 2262 day (omega (arith, ints, is, h)) in
    let p = month_and_day_in y.0 (day - days_before y.0) in
    let whole : pos (day * (86400 * 10 ^ 9) + n / 10 ^ 9 % 86400 * 10 ^ 9 + n % 10 ^ 9) ≡ z +ℤ pos nanos_before_1970 = omega (arith, ints, is) in
    ap (λ t. parse_timestamp (t ++ (codes "T" ++ (time_text (n / 10 ^ 9 % 86400) ++ (fraction_text (n % 10 ^ 9) ++ codes "Z"))))) (civil_parts y.0 day y.3 y.1 y.2)
    ∙ back_of z day (n / 10 ^ 9 % 86400) (n % 10 ^ 9) y.0 p (day_found_in y.0 day y.1 y.2) y.3 (omega arith) (omega arith) whole h

pub date_back : (z : ℤ) → FitsSigned w64 z → date_in (date_text z) ≡ Some z
unfolding date_in
date_back z h =
    let n = nat_abs (z +ℤ pos nanos_before_1970) in
    let is : pos n ≡ z +ℤ pos nanos_before_1970 = omega (arith, ints, h) in
    ap result_ok (ap parse_timestamp (sym (parts_of_date z)) ∙ back_parts z n is h)
