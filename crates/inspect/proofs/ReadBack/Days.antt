-- Days, as `jiff` counts them.
use Rattle.std.proofs.Common.{[], Bool, List, ap, arith, false, get_or, if◌then◌else◌, length, pos, refl, subst, suc, sym, true, zero, ◌%◌, ◌&&◌, ◌+◌, ◌-◌, ◌-ℤ◌, ◌<◌, ◌==◌, ◌∙◌, ◌∷◌, ◌≡◌, ◌≤◌, ◌||◌, ℕ, ℤ, nat_le, nat_lt, not}
use Rattle.std.proofs.lemmas.Int.{ints}
use Rattle.std.proofs.lemmas.Bool.Decides.{nat_tests}
use Rattle.std.proofs.lemmas.Bool.{eqb-false, eqb-true}
use Rattle.definitions.specs.Dates.{days_before, is_leap, month_and_day, month_lengths, year_of}
use Rattle.values_json.specs.DateParts.{month_and_day_in}
use Rattle.jiff_core.specs.Calendar.{day_count, days_in_month, days_in_year, days_of_months, days_of_years}
use Rattle.values_json.proofs.Calendar.{total}

-- ---- years

grows : (y : ℕ) (a b c : Bool) → (y % 4 == 0) ≡ a → (y % 100 == 0) ≡ b → (y % 400 == 0) ≡ c → days_before (y + 1) ≡ days_before y + (if a && (not b || c) then 366 else 365)
grows y true true true p q r = (let a = eqb-true (y % 4) 0 p in let b = eqb-true (y % 100) 0 q in let c = eqb-true (y % 400) 0 r in omega (arith, a, b, c))
grows y true true false p q r = (let a = eqb-true (y % 4) 0 p in let b = eqb-true (y % 100) 0 q in let c = eqb-false (y % 400) 0 r in omega (arith, a, b, c))
grows y true false c p q r = (let a = eqb-true (y % 4) 0 p in let b = eqb-false (y % 100) 0 q in omega (arith, a, b))
grows y false b c p q r = (let a = eqb-false (y % 4) 0 p in omega (arith, a))

-- a year has as many days as stand between its first day and that of the next
pub year_grows : (y : ℕ) → days_before (y + 1) ≡ days_before y + days_in_year (pos y)
year_grows y = grows y (y % 4 == 0) (y % 100 == 0) (y % 400 == 0) refl refl refl

-- the days of the years before one, from another on
years_from : (base y : ℕ) → base ≡ 10000 → days_of_years (y + base) ≡ days_of_years base + days_before y
unfolding days_of_years
years_from base zero is = ap days_of_years (let same : 0 + base ≡ base = omega arith in same) ∙ (let same : days_of_years base ≡ days_of_years base + 0 = omega arith in same)
years_from base (suc y) is =
    let next : suc y + base ≡ suc (y + base) = omega arith in
    let year : pos (y + base) -ℤ pos 10000 ≡ pos y = omega (arith, ints, is) in
    let ih = years_from base y is in
    let more = year_grows y in
    let one : y + 1 ≡ suc y = omega arith in
    let shifted = ap days_before one in
    ap days_of_years next ∙ ap (λ z. days_of_years (y + base) + days_in_year z) year ∙ (let same : days_of_years (y + base) + days_in_year (pos y) ≡ days_of_years base + days_before (suc y) = omega (arith, ih, more, shifted) in same)

-- ---- the year of a day

year_bounds : (limit day : ℕ) → day < days_before (limit + 1) → (days_before (year_of limit day) ≤ day) × (day < days_before (year_of limit day + 1)) × (year_of limit day ≤ limit)
year_bounds zero day ends = (omega arith, ends, omega arith)
year_bounds (suc limit) day ends = go (nat_le (days_before (suc limit)) day) refl (year_bounds limit day)
  where
    Bounds : ℕ → Type 0
    Bounds y = (days_before y ≤ day) × (day < days_before (y + 1)) × (y ≤ suc limit)

    go : (s : Bool) → nat_le (days_before (suc limit)) day ≡ s → (day < days_before (limit + 1) → (days_before (year_of limit day) ≤ day) × (day < days_before (year_of limit day + 1)) × (year_of limit day ≤ limit)) → (days_before (if s then suc limit else year_of limit day) ≤ day) × (day < days_before ((if s then suc limit else year_of limit day) + 1)) × ((if s then suc limit else year_of limit day) ≤ suc limit)
    go true is ih = (let begins : days_before (suc limit) ≤ day = grind (arith, nat_tests, is) in (begins, ends, omega arith))
    go false is ih =
        let before : day < days_before (suc limit) = grind (arith, nat_tests, is) in
        let one : limit + 1 ≡ suc limit = omega arith in
        let t = ih (subst (λ y. day < days_before y) (sym one) before) in
        let most = t.2 in
        (t.0, t.1, omega (arith, most))

-- ---- months

-- lengths of months, from the one behind the first k on
abbrev AreFrom : ℕ → ℕ → List ℕ → Type 0
AreFrom y k ls = (i : ℕ) → i < length ls → get_or ls i 0 ≡ days_in_month (pos y) (suc (k + i))

-- a month and a day of it, r days behind the first k months
abbrev Found : ℕ → ℕ → ℕ → ℕ × ℕ → Type 0
Found y k r p = (1 ≤ p.0) × (p.0 ≤ 12) × (1 ≤ p.1) × (p.1 ≤ days_in_month (pos y) p.0) × (days_of_months (pos y) (p.0 - 1) + p.1 ≡ days_of_months (pos y) k + r + 1)

month_found : (y k r : ℕ) (ls : List ℕ) → AreFrom y k ls → r < total ls → k + length ls ≡ 12 → Found y k r (month_and_day (suc k) ls r)
unfolding days_of_months
month_found y k r [] are short twelve = absurd (omega (arith, short))
month_found y k r (days ∷ later) are short twelve =
    go (nat_lt r days) refl (month_found y (suc k) (r - days) later
    (λ i within. are (suc i) (omega (arith, within)) ∙ ap (days_in_month (pos y)) (let is : suc (k + suc i) ≡ suc (suc k + i) = omega arith in is)))
  where
    here : days ≡ days_in_month (pos y) (suc k)
    here = are 0 (omega arith) ∙ ap (λ j. days_in_month (pos y) (suc j)) (let is : k + 0 ≡ k = omega arith in is)

    go : (s : Bool) → nat_lt r days ≡ s → (r - days < total later → suc k + length later ≡ 12 → Found y (suc k) (r - days) (month_and_day (suc (suc k)) later (r - days))) → Found y k r (if s then (suc k, r + 1) else month_and_day (suc k + 1) later (r - days))
    go true is ih =
        let less : r < days = grind (arith, nat_tests, is) in
        let day : r + 1 ≤ days_in_month (pos y) (suc k) = omega (arith, less, here) in
        let days_equal : days_of_months (pos y) (suc k - 1) ≡ days_of_months (pos y) k = ap (days_of_months (pos y)) (let is : suc k - 1 ≡ k = omega arith in is) in
        (omega arith, omega (arith, twelve), omega arith, day, omega (arith, days_equal))
    go false is ih =
        let past : days ≤ r = grind (arith, nat_tests, is) in
        let found : Found y (suc k) (r - days) (month_and_day (suc (suc k)) later (r - days)) = ih (omega (arith, past, short)) (omega (arith, twelve)) in
        let days_equal = found.4 in
        subst (λ m. Found y k r (month_and_day m later (r - days))) (let is : suc (suc k) ≡ suc k + 1 = omega arith in is)
        (found.0, found.1, found.2, found.3, days_equal ∙ (let same : days_of_months (pos y) k + days_in_month (pos y) (suc k) + (r - days) + 1 ≡ days_of_months (pos y) k + r + 1 = omega (arith, here, past) in same))

months_are : (y : ℕ) → AreFrom y 0 (month_lengths y)
months_are y zero within = refl
months_are y (suc zero) within = refl
months_are y (suc (suc zero)) within = refl
months_are y (suc (suc (suc zero))) within = refl
months_are y (suc (suc (suc (suc zero)))) within = refl
months_are y (suc (suc (suc (suc (suc zero))))) within = refl
months_are y (suc (suc (suc (suc (suc (suc zero)))))) within = refl
months_are y (suc (suc (suc (suc (suc (suc (suc zero))))))) within = refl
months_are y (suc (suc (suc (suc (suc (suc (suc (suc zero)))))))) within = refl
months_are y (suc (suc (suc (suc (suc (suc (suc (suc (suc zero))))))))) within = refl
months_are y (suc (suc (suc (suc (suc (suc (suc (suc (suc (suc zero)))))))))) within = refl
months_are y (suc (suc (suc (suc (suc (suc (suc (suc (suc (suc (suc zero))))))))))) within = refl
months_are y (suc (suc (suc (suc (suc (suc (suc (suc (suc (suc (suc (suc i)))))))))))) within = absurd (omega (arith, within))

year_total : (y : ℕ) → total (month_lengths y) ≡ days_in_year (pos y)
year_total y = go (is_leap y)
  where
    go : (b : Bool) → total (31 ∷ (if b then 29 else 28) ∷ 31 ∷ 30 ∷ 31 ∷ 30 ∷ 31 ∷ 31 ∷ 30 ∷ 31 ∷ 30 ∷ 31 ∷ []) ≡ (if b then 366 else 365)
    go true = refl
    go false = refl

-- ---- a day

-- the year, the month and the day of a day, counted from the year 0
pub record IsDay (day year : ℕ) (p : ℕ × ℕ) : Type 0 where
  pub month_least : 1 ≤ p.0
  pub month_most : p.0 ≤ 12
  pub day_least : 1 ≤ p.1
  pub day_most : p.1 ≤ days_in_month (pos year) p.0
  pub counted : day_count (pos year) p.0 p.1 ≡ days_of_years 10000 + day

months_zero : (y : ℤ) → days_of_months y 0 ≡ 0
unfolding days_of_months
months_zero y = refl

day_at : (year m d : ℕ) → day_count (pos year) m d ≡ days_of_years 10000 + days_before year + (days_of_months (pos year) (m - 1) + d - 1)
unfolding day_count
day_at year m d = ap (λ n. n + (days_of_months (pos year) (m - 1) + d - 1)) (years_from 10000 year refl)

day_found : (year day : ℕ) → days_before year ≤ day → day < days_before (year + 1) → IsDay day year (month_and_day 1 (month_lengths year) (day - days_before year))
day_found year day begins ends =
    let r = day - days_before year in
    let grown = year_grows year in
    let whole = year_total year in
    let found : Found year 0 r (month_and_day 1 (month_lengths year) r) = month_found year 0 r (month_lengths year) (months_are year) (omega (arith, begins, ends, grown, whole)) refl in
    let p = month_and_day 1 (month_lengths year) r in
    let least = found.2 in
    let days_equal = found.4 in
    let none = months_zero (pos year) in
    let at = day_at year p.0 p.1 in
    record {
      month_least = found.0;
      month_most = found.1;
      day_least = found.2;
      day_most = found.3;
      counted = at ∙ (let same : days_of_years 10000 + days_before year + (days_of_months (pos year) (p.0 - 1) + p.1 - 1) ≡ days_of_years 10000 + day = omega (arith, least, days_equal, none, begins) in same);
    }

-- the first day of 1970
pub first_of_1970 : day_count (pos 1970) 1 1 ≡ days_of_years 10000 + days_before 1970
first_of_1970 =
    let none = months_zero (pos 1970) in
    day_at 1970 1 1 ∙ (let same : days_of_years 10000 + days_before 1970 + (days_of_months (pos 1970) 0 + 1 - 1) ≡ days_of_years 10000 + days_before 1970 = omega (arith, none) in same)

pub year_exists : (limit day : ℕ) → day < days_before (limit + 1) → (year : ℕ) × (days_before year ≤ day) × (day < days_before (year + 1)) × (year ≤ limit)
year_exists limit day ends = (let b = year_bounds limit day ends in (year_of limit day, b.0, b.1, b.2))

pub day_found_in : (year day : ℕ) → days_before year ≤ day → day < days_before (year + 1) → IsDay day year (month_and_day_in year (day - days_before year))
unfolding month_and_day_in
day_found_in year day begins ends = day_found year day begins ends
