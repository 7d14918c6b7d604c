-- Texts that are read as numbers.
use Rattle.std.proofs.Common.{[], Bool, Err, FitsSigned, List, None, Ok, Option, Result, Some, ap, ap₂, arith, codes, cond, drop, eq-eqb, false, fold, get_or, if◌then◌else◌, length, lit<, nat_eq, nat_lt, ne_eqb, neg_ℤ, option_and_then, option_map, pos, refl, rules, subst, sym, true, w64, ◌&&◌, ◌*◌, ◌+◌, ◌<◌, ◌≤◌, ◌≢◌, ◌==◌, ◌^◌, ◌∙◌, ◌∷◌, ◌≡◌, ℕ, ℤ, inl, inr}
use Rattle.std.specs.Char.{digit_value, is_ascii_digit}
use Rattle.std.specs.List.{list_all}
use Rattle.std.specs.Result.{OkIff, result_ok}
use Rattle.std.specs.Str.Parse.{ParsesSigned, ParsesUnsigned}
use Rattle.std.proofs.lemmas.Bool.{cases_eq}
use Rattle.std.proofs.lemmas.Bool.Decides.{nat_tests}
use Rattle.std.proofs.lemmas.Str.Parse.{IsNumeralModel, numerals_by_fold, parse_plain, parse_plus, parse_signed_minus, parse_signed_plain, parse_signed_plus}
use Rattle.definitions.specs.Addresses.{digits_value}
use Rattle.definitions.specs.Reading.{after_sign, below, decimal_in, i64_text, u64_text}
use Rattle.definitions.specs.Values.{Value, i64, u64}

-- ---- digits, as `parse` has them

pub own : IsNumeralModel (λ ds. list_all is_ascii_digit ds ≡ true) (digits_value 10)
own = numerals_by_fold _ (search rules) (λ n ds. fold (λ m d. m * 10 + digit_value d) n ds) (search rules)

-- digits whose number is below the limit
abbrev IsBelow : ℕ → List ℕ → Type 0
IsBelow limit ds = (list_all is_ascii_digit ds ≡ true) × (0 < length ds) × (digits_value 10 ds < limit)

-- what is read, of the digits
abbrev number_of : (ℕ → Value) → ℕ → List ℕ → Option Value
number_of wrap limit ds = option_map wrap (option_and_then (below limit) (decimal_in ds))

module _ (wrap : ℕ → Value) (limit : ℕ) (ds : List ℕ) where
  tested : (a b c : Bool) → nat_lt 0 (length ds) ≡ a → list_all is_ascii_digit ds ≡ b → nat_lt (digits_value 10 ds) limit ≡ c → number_of wrap limit ds ≡ (if a && (b && c) then Some (wrap (digits_value 10 ds)) else None)
  tested a b c some digits small =
      ap₂ (λ x y. option_map wrap (option_and_then (below limit) (if x && y then Some (digits_value 10 ds) else None))) some digits
      ∙ go a b
    where
      go : (x y : Bool) → option_map wrap (option_and_then (below limit) (if x && y then Some (digits_value 10 ds) else None)) ≡ (if x && (y && c) then Some (wrap (digits_value 10 ds)) else None)
      go true true = ap (λ z. option_map wrap (if z then Some (digits_value 10 ds) else None)) small ∙ last c
        where
          last : (z : Bool) → option_map wrap (if z then Some (digits_value 10 ds) else None) ≡ (if z then Some (wrap (digits_value 10 ds)) else None)
          last true = refl
          last false = refl
      go true false = refl
      go false y = refl

  number_read : IsBelow limit ds → number_of wrap limit ds ≡ Some (wrap (digits_value 10 ds))
  number_read (digits, some, small) = tested true true true (grind (arith, nat_tests)) digits (grind (arith, nat_tests))

  number_refused : (IsBelow limit ds → ⊥) → number_of wrap limit ds ≡ None
  number_refused none = go (nat_lt 0 (length ds)) (list_all is_ascii_digit ds) (nat_lt (digits_value 10 ds) limit) refl refl refl
    where
      go : (a b c : Bool) → nat_lt 0 (length ds) ≡ a → list_all is_ascii_digit ds ≡ b → nat_lt (digits_value 10 ds) limit ≡ c → number_of wrap limit ds ≡ None
      go true true true some digits small = absurd (none (digits, grind (arith, nat_tests), grind (arith, nat_tests)))
      go true true false some digits small = tested true true false some digits small
      go true false c some digits small = tested true false c some digits small
      go false b c some digits small = tested false b c some digits small

-- ---- a sign

sign_test : (sign c : ℕ) → nat_eq sign c ≡ (c == sign)
sign_test sign c = grind (arith, nat_tests)

signed : (sign : ℕ) (bs : List ℕ) → get_or bs 0 0 ≡ sign → 0 < sign → after_sign (sign ∷ []) bs ≡ drop 1 bs
signed sign [] is some = absurd (omega (arith, is))
signed sign (c ∷ cs) is some = ap (λ b. cond (b && true) cs (c ∷ cs)) (sign_test sign c ∙ eq-eqb c sign is)

unsigned : (sign : ℕ) (bs : List ℕ) → get_or bs 0 0 ≢ sign → after_sign (sign ∷ []) bs ≡ bs
unsigned sign [] other = refl
unsigned sign (c ∷ cs) other = ap (λ b. cond (b && true) cs (c ∷ cs)) (sign_test sign c ∙ ne_eqb c sign other)

-- ---- numbers of 64 bits

module _ {A E : Type 0} (of : ℕ → A) (wrap : A → Value) where
  -- what `parse` gives of the digits, behind their sign
  read_as : (limit : ℕ) (ds : List ℕ) (r : Result A E) → OkIff r (IsBelow limit ds) (of (digits_value 10 ds)) → number_of (λ n. wrap (of n)) limit ds ≡ option_map wrap (result_ok r)
  read_as limit ds (Ok a) h = number_read (λ n. wrap (of n)) limit ds h.0 ∙ ap (λ x. Some (wrap x)) (sym h.1)
  read_as limit ds (Err e) h = number_refused (λ n. wrap (of n)) limit ds h

  -- up to a number is below the next one
  to_below : (limit : ℕ) (ds : List ℕ) (r : Result A E) → OkIff r ((list_all is_ascii_digit ds ≡ true) × (0 < length ds) × (digits_value 10 ds ≤ limit)) (of (digits_value 10 ds)) → OkIff r (IsBelow (limit + 1) ds) (of (digits_value 10 ds))
  to_below limit ds (Ok a) h = ((h.0.0, h.0.1, omega (arith, h.0.2)), h.1)
  to_below limit ds (Err e) h = λ b. h (b.0, b.1, omega (arith, b.2))

pub u64_parsed : {E : Type 0} (bs : List ℕ) (r : Result ℕ E) → ParsesUnsigned 64 10 bs r → u64_text bs ≡ option_map u64 (result_ok r)
u64_parsed bs r parsed =
    elim (cases_eq (get_or bs 0 0) 43) [
      | inl plus ↦ ap (number_of u64 (2 ^ 64)) (signed 43 bs plus (lit< tt)) ∙ read_as (λ n. n) u64 (2 ^ 64) (drop 1 bs) r (parse_plus own 64 bs r parsed plus)
      | inr other ↦ ap (number_of u64 (2 ^ 64)) (unsigned 43 bs other) ∙ read_as (λ n. n) u64 (2 ^ 64) bs r (parse_plain own 64 bs r parsed other)
    ]

-- ---- numbers with a sign

-- what is read behind a minus, and otherwise
abbrev behind_minus : List ℕ → Option Value
behind_minus ds = number_of (λ n. i64 (neg_ℤ (pos n))) (2 ^ 63 + 1) ds

abbrev not_behind_minus : List ℕ → Option Value
not_behind_minus ds = number_of (λ n. i64 (pos n)) (2 ^ 63) ds

with_minus : (bs : List ℕ) → get_or bs 0 0 ≡ 45 → i64_text bs ≡ behind_minus (drop 1 bs)
with_minus [] is = absurd (omega (arith, is))
with_minus (c ∷ cs) is = ap (λ b. if b && true then behind_minus cs else not_behind_minus (after_sign (codes "+") (c ∷ cs))) (sign_test 45 c ∙ eq-eqb c 45 is)

without_minus : (bs : List ℕ) → get_or bs 0 0 ≢ 45 → i64_text bs ≡ not_behind_minus (after_sign (codes "+") bs)
without_minus [] other = refl
without_minus (c ∷ cs) other = ap (λ b. if b && true then behind_minus cs else not_behind_minus (after_sign (codes "+") (c ∷ cs))) (sign_test 45 c ∙ ne_eqb c 45 other)

pub i64_parsed : {E : Type 0} (bs : List ℕ) (r : Result ℤ E) → ParsesSigned w64 10 bs r → i64_text bs ≡ option_map i64 (result_ok r)
i64_parsed bs r parsed =
    elim (cases_eq (get_or bs 0 0) 45) [
      | inl sign ↦ with_minus bs sign ∙ read_as (λ n. neg_ℤ (pos n)) i64 (2 ^ 63 + 1) (drop 1 bs) r (to_below (λ n. neg_ℤ (pos n)) i64 (2 ^ 63) (drop 1 bs) r (parse_signed_minus own w64 bs r parsed sign))
      | inr no_minus ↦ without_minus bs no_minus ∙ elim (cases_eq (get_or bs 0 0) 43) [
        | inl plus ↦ ap not_behind_minus (signed 43 bs plus (lit< tt)) ∙ read_as pos i64 (2 ^ 63) (drop 1 bs) r (parse_signed_plus own w64 bs r parsed plus)
        | inr other ↦ ap not_behind_minus (unsigned 43 bs other) ∙ read_as pos i64 (2 ^ 63) bs r (parse_signed_plain own w64 bs r parsed other no_minus)
      ]
    ]

-- a number that was read fits
pub read_fits : (E : Type 0) (bs : List ℕ) (z : ℤ) → ParsesSigned {E = E} w64 10 bs (Ok z) → FitsSigned w64 z
read_fits E bs z read = subst (FitsSigned w64) (sym read.1) read.0.1
