-- The parts of a text between separators.
use Rattle.std.proofs.Common.{[], List, ap, ap₂, arith, cond, false, ne_eqb, refl, true, ◌++◌, ◌==◌, ◌∙◌, ◌∷◌, ◌≡◌, ◌≤◌, ℕ}
use Rattle.std.specs.Char.{digit_value}
use Rattle.std.specs.List.{join_with_byte, onto_first, slice_split}
use Rattle.std.specs.Str.Parse.{AllDigits}
use Rattle.std.proofs.lemmas.Bool.Decides.{nat_tests}
use Rattle.std.proofs.lemmas.List.Splits.{join_with_byte-slice_split}
use Rattle.definitions.specs.Addresses.{parts_at}

-- no byte of the text is this one
abbrev pub Lacks : ℕ → List ℕ → Type 0
Lacks sep [] = Unit {0}
Lacks sep (c ∷ cs) = ((sep == c) ≡ false) × Lacks sep cs

pub lacks_digits : (sep radix : ℕ) → radix ≤ digit_value sep → (ds : List ℕ) → AllDigits radix ds → Lacks sep ds
lacks_digits sep radix past [] digits = tt
lacks_digits sep radix past (d ∷ ds) digits = (ne_eqb sep d (λ is. let same = ap digit_value is in let low = digits.0 in omega (arith, same, low, past)), lacks_digits sep radix past ds digits.1)

pub lacks_append : (sep : ℕ) (xs ys : List ℕ) → Lacks sep xs → Lacks sep ys → Lacks sep (xs ++ ys)
lacks_append sep [] ys front back = back
lacks_append sep (x ∷ xs) ys front back = (front.0, lacks_append sep xs ys front.1 back)

-- a text without the separator is its one part
pub one_part : (sep : ℕ) (xs : List ℕ) → Lacks sep xs → parts_at sep xs ≡ xs ∷ []
one_part sep [] lacks = refl
one_part sep (x ∷ xs) lacks = ap₂ (λ b parts. cond b ([] ∷ parts_at sep xs) (onto_first x parts)) lacks.0 (one_part sep xs lacks.1)

-- the first part ends at the first separator
pub first_part : (sep : ℕ) (xs ys : List ℕ) → Lacks sep xs → parts_at sep (xs ++ sep ∷ ys) ≡ xs ∷ parts_at sep ys
first_part sep [] ys lacks = ap (λ b. cond b ([] ∷ parts_at sep ys) (onto_first sep (parts_at sep ys))) (same sep)
  where
    same : (n : ℕ) → (n == n) ≡ true
    same n = grind (arith, nat_tests)
first_part sep (x ∷ xs) ys lacks = ap₂ (λ b parts. cond b ([] ∷ parts_at sep (xs ++ sep ∷ ys)) (onto_first x parts)) lacks.0 (first_part sep xs ys lacks.1)

-- the parts make the text again
pub parts_joined : (sep : ℕ) (xs : List ℕ) → join_with_byte sep (parts_at sep xs) ≡ xs
parts_joined sep xs = ap (join_with_byte sep) (turned xs) ∙ join_with_byte-slice_split sep xs
  where
    test : (a b : ℕ) → (a == b) ≡ (b == a)
    test a b = grind (arith, nat_tests)

    turned : (cs : List ℕ) → parts_at sep cs ≡ slice_split (λ b. b == sep) cs
    turned [] = refl
    turned (c ∷ cs) = ap₂ (λ b parts. cond b ([] ∷ parts) (onto_first c parts)) (test sep c) (turned cs)
