-- Years, months and days.
use Rattle.std.proofs.Common.{[], List, ap, append_assoc, arith, codes, inl, inr, le-leb, length, lt-ltb, le-ltb, nat_abs, pos, refl, nat_lt, lit≤, Bool, if◌then◌else◌, subst, suc, sym, zero, ◌++◌, ◌+◌, ◌-◌, ◌<◌, ◌∙◌, ◌∷◌, ◌≡◌, ◌≤◌, ◌+ℤ◌, ℕ, ℤ}
use Rattle.std.specs.List.{AllByRecursion}
use Rattle.std.proofs.lemmas.Bool.{cases_Bool, cases_lt, cond-false, cond-true, lt-leb}
use Rattle.definitions.specs.Dates.{date_text, days_before, is_leap, last_year, month_and_day, month_lengths, month_text, nanos_before_1970, padded, year_of}
use Rattle.values_json.specs.DateParts.{civil_text, month_and_day_in, parts_text}

-- no year begins before an earlier one
not_before : (a b : ℕ) → a ≤ b → days_before a ≤ days_before b
not_before a b before = omega arith

-- the year in which a day lies is the one that the definition finds
year_found : (limit year day : ℕ) → year ≤ limit → days_before year ≤ day → day < days_before (year + 1) → year_of limit day ≡ year
year_found zero year day within begins ends = omega arith
year_found (suc limit) year day within begins ends = elim (cases_lt year (suc limit)) [
  | inl before ↦
      let past : day < days_before (suc limit) = (let order = not_before (year + 1) (suc limit) (omega arith) in omega (arith, order, ends)) in
      cond-false _ (suc limit) (year_of limit day) (lt-leb (days_before (suc limit)) day past) ∙ year_found limit year day (omega arith) begins ends
  | inr last ↦
      let is : suc limit ≡ year = omega arith in
      let same = ap days_before is in
      cond-true _ (suc limit) (year_of limit day) (le-leb (days_before (suc limit)) day (omega (arith, same, begins))) ∙ is
]

pub civil_parts : (year day : ℕ) → year ≤ 2262 → days_before year ≤ day → day < days_before (year + 1) → civil_text day ≡ padded 4 year ++ (codes "-" ++ month_text (month_and_day_in year (day - days_before year)))
unfolding civil_text month_and_day_in
civil_parts year day within begins ends = ap (λ y. padded 4 y ++ (codes "-" ++ month_text (month_and_day 1 (month_lengths y) (day - days_before y)))) (year_found last_year year day within begins ends)

-- ---- months

abbrev pub total : List ℕ → ℕ
total [] = 0
total (n ∷ ns) = n + total ns

month_bounds : (month : ℕ) (ls : List ℕ) (day : ℕ) → AllByRecursion (λ d. d ≤ 31) ls → day ≤ total ls → ((month_and_day month ls day).0 ≤ month + length ls) × ((month_and_day month ls day).1 ≤ 31)
month_bounds month [] day short within = (omega arith, omega arith)
month_bounds month (days ∷ later) day short within =
    let next = month_and_day (month + 1) later (day - days) in
    elim (cases_lt day days) [
      | inl here ↦
          let is = cond-true (nat_lt day days) (month, day + 1) next (lt-ltb day days here) in
          (subst (λ p. p.0 ≤ month + length (days ∷ later)) (sym is) (omega arith), subst (λ p. p.1 ≤ 31) (sym is) (let s = short.0 in omega (arith, s, here)))
      | inr past ↦
          let is = cond-false (nat_lt day days) (month, day + 1) next (le-ltb day days past) in
          let rest = month_bounds (month + 1) later (day - days) short.1 (omega (arith, within, past)) in
          (subst (λ p. p.0 ≤ month + length (days ∷ later)) (sym is) (omega (arith, rest.0)), subst (λ p. p.1 ≤ 31) (sym is) rest.1)
    ]

pub month_and_day_bounds : (year day : ℕ) → day < 366 → ((month_and_day_in year day).0 ≤ 13) × ((month_and_day_in year day).1 ≤ 31)
unfolding month_and_day_in
month_and_day_bounds year day fits = elim (cases_Bool (is_leap year)) [
  | inl leap ↦ go 29 (lit≤ tt) (lit≤ tt) (month_lengths year) (ap of leap)
  | inr other ↦ go 28 (lit≤ tt) (lit≤ tt) (month_lengths year) (ap of other)
]
  where
    lengths : ℕ → List ℕ
    lengths february = 31 ∷ february ∷ 31 ∷ 30 ∷ 31 ∷ 30 ∷ 31 ∷ 31 ∷ 30 ∷ 31 ∷ 30 ∷ 31 ∷ []

    of : Bool → List ℕ
    of b = lengths (if b then 29 else 28)

    go : (february : ℕ) → 28 ≤ february → february ≤ 31 → (ls : List ℕ) → ls ≡ lengths february → ((month_and_day 1 ls day).0 ≤ 13) × ((month_and_day 1 ls day).1 ≤ 31)
    go february least most ls is =
        let all : AllByRecursion (λ d. d ≤ 31) (lengths february) = (lit≤ tt, (most, (lit≤ tt, (lit≤ tt, (lit≤ tt, (lit≤ tt, (lit≤ tt, (lit≤ tt, (lit≤ tt, (lit≤ tt, (lit≤ tt, (lit≤ tt, tt)))))))))))) in
        let bounds = month_bounds 1 (lengths february) day all (omega (arith, fits, least)) in
        subst (λ m. ((month_and_day 1 m day).0 ≤ 13) × ((month_and_day 1 m day).1 ≤ 31)) (sym is) (omega (arith, bounds.0), bounds.1)

-- ---- a whole date

pub parts_of_date : (nanos : ℤ) → parts_text (nat_abs (nanos +ℤ pos nanos_before_1970)) ≡ date_text nanos
unfolding civil_text date_text
parts_of_date nanos = refl

pub five_parts : (t a b c d e : List ℕ) → ((((t ++ a) ++ b) ++ c) ++ d) ++ e ≡ t ++ (a ++ (b ++ (c ++ (d ++ e))))
five_parts t a b c d e = simp append_assoc
