-- Numbers in a fixed number of digits.
use Rattle.std.proofs.Common.{[], Err, List, Ok, OnOk, Result, ap, ap₂, append_assoc, arith, decimal, if◌then◌else◌, inl, inr, is_ok, length, length-append, lit<, ne_eqb, refl, replicate, subst, suc, sym, true, zero, ◌%◌, ◌&&◌, ◌++◌, ◌+◌, ◌-◌, ◌/◌, ◌<◌, ◌==◌, ◌^◌, ◌∙◌, ◌∷◌, ◌≡◌, ◌≤◌, ℕ}
use Rattle.std.proofs.Math.Nat.{pow-suc}
use Rattle.std.proofs.lemmas.Bool.{and_right, cases_lt, cond-false}
use Rattle.std.proofs.lemmas.Fmt.{decimal_digit, decimal_step}
use Rattle.definitions.specs.Dates.{fraction_text, padded, without_last_zeros}

-- a digit alone
pub padded_digit : (n : ℕ) → n < 10 → padded 1 n ≡ (48 + n % 10) ∷ []
padded_digit n small =
    let one = decimal_digit n small in
    let same : n % 10 ≡ n = omega arith in
    ap (λ ds. replicate (1 - length ds) 48 ++ ds) one ∙ ap (λ m. (48 + m) ∷ []) (sym same)

zeros_before : (w : ℕ) (ds : List ℕ) → replicate (suc w) 48 ++ ds ≡ replicate w 48 ++ (48 ∷ ds)
zeros_before zero ds = refl
zeros_before (suc w) ds = ap (λ t. 48 ∷ t) (zeros_before w ds)

-- zeros and a digit, and zeros alone
digit_wide : (v n : ℕ) → n < 10 → padded (suc v + 1) n ≡ replicate (suc v) 48 ++ ((48 + n) ∷ [])
digit_wide v n small =
    let one : suc v + 1 - 1 ≡ suc v = omega arith in
    ap (λ ds. replicate (suc v + 1 - length ds) 48 ++ ds) (decimal_digit n small) ∙ ap (λ k. replicate k 48 ++ ((48 + n) ∷ [])) one

zero_wide : (v : ℕ) → padded (suc v) 0 ≡ replicate v 48 ++ (48 ∷ [])
zero_wide v =
    let one : suc v - 1 ≡ v = omega arith in
    ap (λ ds. replicate (suc v - length ds) 48 ++ ds) (decimal_digit 0 (lit< tt)) ∙ ap (λ k. replicate k 48 ++ (48 ∷ [])) one

-- a lone digit behind zeros
digit_behind : (v n : ℕ) → n < 10 → padded (suc v + 1) n ≡ padded (suc v) (n / 10) ++ ((48 + n % 10) ∷ [])
digit_behind v n small =
    let none : 0 ≡ n / 10 = omega arith in
    let same : n ≡ n % 10 = omega arith in
    let front : List ℕ → List ℕ = λ t. t ++ ((48 + n) ∷ []) in
    digit_wide v n small
    ∙ zeros_before v ((48 + n) ∷ [])
    ∙ sym (append_assoc (replicate v 48) (48 ∷ []) ((48 + n) ∷ []))
    ∙ ap front (sym (zero_wide v))
    ∙ ap₂ (λ m d. padded (suc v) m ++ ((48 + d) ∷ [])) none same

-- the digits before the last, and the last
pub padded_step : (w n : ℕ) → 0 < w → n < 2 ^ 64 → padded (w + 1) n ≡ padded w (n / 10) ++ ((48 + n % 10) ∷ [])
padded_step zero n some small = absurd (omega arith)
padded_step (suc v) n some small = elim (cases_lt n 10) [
  | inl digit ↦ digit_behind v n digit
  | inr more ↦
      let front = decimal (n / 10) in
      let last = (48 + n % 10) ∷ [] in
      let len : suc v + 1 - length (front ++ last) ≡ suc v - length front = omega (arith, length-append front last) in
      ap (λ ds. replicate (suc v + 1 - length ds) 48 ++ ds) (decimal_step n more small)
      ∙ ap (λ k. replicate k 48 ++ (front ++ last)) len
      ∙ sym (append_assoc (replicate (suc v - length front) 48) front last)
]

-- ---- last zeros

zero_dropped : (ds : List ℕ) → without_last_zeros (ds ++ (48 ∷ [])) ≡ without_last_zeros ds
zero_dropped [] = refl
zero_dropped (d ∷ ds) = ap (λ rest. if (d == 48) && (length rest == 0) then [] else d ∷ rest) (zero_dropped ds)

digit_kept : (ds : List ℕ) (d : ℕ) → (d ≡ 48 → ⊥) → without_last_zeros (ds ++ (d ∷ [])) ≡ ds ++ (d ∷ [])
digit_kept [] d other = ap (λ b. if b && true then [] else d ∷ []) (ne_eqb d 48 other)
digit_kept (e ∷ es) d other =
    let whole = es ++ (d ∷ []) in
    let some : length whole ≡ 0 → ⊥ = λ none. omega (arith, none, length-append es (d ∷ [])) in
    ap (λ rest. if (e == 48) && (length rest == 0) then [] else e ∷ rest) (digit_kept es d other)
    ∙ cond-false ((e == 48) && (length whole == 0)) [] (e ∷ whole) (and_right (e == 48) (length whole == 0) (ne_eqb (length whole) 0 some))

-- a last zero is left away
pub fraction_shorter : (w n : ℕ) → 0 < w → n < 2 ^ 64 → n % 10 ≡ 0 → without_last_zeros (padded (w + 1) n) ≡ without_last_zeros (padded w (n / 10))
fraction_shorter w n some small zero_last =
    ap without_last_zeros (padded_step w n some small)
    ∙ ap (λ d. without_last_zeros (padded w (n / 10) ++ ((48 + d) ∷ []))) zero_last
    ∙ zero_dropped (padded w (n / 10))

-- and then all digits are kept
pub fraction_kept : (w n : ℕ) → n < 10 ^ (w + 1) → n < 2 ^ 64 → (n % 10 ≡ 0 → ⊥) → without_last_zeros (padded (w + 1) n) ≡ padded (w + 1) n
fraction_kept zero n fits small other =
    let one = padded_digit n fits in
    ap without_last_zeros one ∙ digit_kept [] (48 + n % 10) (λ is. other (omega (arith, is))) ∙ sym one
fraction_kept (suc v) n fits small other =
    let step = padded_step (suc v) n (omega arith) small in
    ap without_last_zeros step ∙ digit_kept (padded (suc v) (n / 10)) (48 + n % 10) (λ is. other (omega (arith, is))) ∙ sym step

-- ---- what a fraction's digits become

pub fraction_step : (w d : ℕ) (rest : List ℕ) → without_last_zeros (padded w d) ≡ rest → d < 10 ^ w → 0 < d → w ≤ 9 → d < 2 ^ 64 → d % 10 ≡ 0 → (without_last_zeros (padded (w - 1) (d / 10)) ≡ rest) × (d / 10 < 10 ^ (w - 1)) × (0 < d / 10) × (0 < w - 1) × (w - 1 ≤ 9)
fraction_step zero d rest is fits some most small zero_last = absurd (omega arith)
fraction_step (suc zero) d rest is fits some most small zero_last = absurd (omega arith)
fraction_step (suc (suc v)) d rest is fits some most small zero_last =
    let before : suc (suc v) - 1 ≡ suc v = omega arith in
    let after : suc v + 1 ≡ suc (suc v) = omega arith in
    let power = pow-suc 10 (suc v) in
    let shorter = sym (fraction_shorter (suc v) d (omega arith) small zero_last) ∙ ap (λ m. without_last_zeros (padded m d)) after ∙ is in
    let P : ℕ → Type 0 = λ m. (without_last_zeros (padded m (d / 10)) ≡ rest) × (d / 10 < 10 ^ m) × (0 < d / 10) × (0 < m) × (m ≤ 9) in
    subst P (sym before) (shorter, omega (arith, power), omega arith, omega arith, omega arith)

pub fraction_end : (w d nanos : ℕ) → without_last_zeros (padded w d) ≡ without_last_zeros (padded 9 nanos) → d < 10 ^ w → 0 < w → d < 2 ^ 64 → (d % 10 ≡ 0 → ⊥) → (nanos ≡ 0 → ⊥) → fraction_text nanos ≡ 46 ∷ padded w d
fraction_end zero d nanos is fits some small other part = absurd (omega arith)
fraction_end (suc v) d nanos is fits some small other part =
    let after : v + 1 ≡ suc v = omega arith in
    let kept = fraction_kept v d (subst (λ m. d < 10 ^ m) (sym after) fits) small other in
    let digits = subst (λ m. without_last_zeros (padded m d) ≡ padded m d) after kept in
    cond-false (nanos == 0) [] (46 ∷ without_last_zeros (padded 9 nanos)) (ne_eqb nanos 0 part) ∙ ap (λ t. 46 ∷ t) (sym is ∙ digits)

-- ---- a digit behind the others

pub last_digit : (w n : ℕ) → 1 < w → n < 2 ^ 64 → padded w n ≡ padded (w - 1) (n / 10) ++ ((48 + n % 10) ∷ [])
last_digit w n more small =
    let whole : w - 1 + 1 ≡ w = omega arith in
    ap (λ m. padded m n) (sym whole) ∙ padded_step (w - 1) n (omega arith) small

pub lone_digit : (w n : ℕ) → 0 < w → w ≤ 1 → n < 10 ^ w → padded w n ≡ (48 + n % 10) ∷ []
lone_digit w n some most fits =
    let one : w ≡ 1 = omega arith in
    ap (λ m. padded m n) one ∙ padded_digit n (subst (λ m. n < 10 ^ m) one fits)

pub pushed : {T E : Type 0} (r : Result T E) (new before more : List ℕ) → new ≡ (if is_ok r then before ++ more else before) → OnOk r (new ≡ before ++ more)
pushed (Ok x) new before more is = is
pushed (Err e) new before more is = tt
