-- The least width of numbers is the length of all their bits together.
use Rattle.std.proofs.Common.{ℕ, suc, List, ◌≡◌, ◌≤◌, ◌<◌, ◌+◌, ◌-◌, ◌*◌, ◌^◌, Bool, true, false, refl, ap, arith, get_or, length, nat_lt, nat_eq, bit_or, pow-suc, subst}
use Rattle.std.proofs.lemmas.Bool.Decides.{nat_tests}
use Rattle.std.proofs.lemmas.List.{get_or_past}
use Rattle.std.proofs.lemmas.Nat.{le_or_l, le_or_r, leading_length, or_lt}
use Rattle.std.specs.Int.{leading_zeros, w32}
use Rattle.codes.proofs.BlockPackings.{pow-pos}
use Rattle.layouts.proofs.PackedTests.{takes_more}
use Rattle.layouts.specs.PackedBlocks.{IsLeastWidth}

-- each of the first numbers lies within all, and all takes no bit more than they do
pub record Joins (numbers : List ℕ) (count all : ℕ) : Type 0 where
  pub holds : (i : ℕ) → i < count → get_or numbers i 0 ≤ all
  pub least : (k : ℕ) → ((i : ℕ) → get_or numbers i 0 < 2 ^ k) → all < 2 ^ k

pub no_numbers : (numbers : List ℕ) → Joins numbers 0 0
no_numbers numbers = record {
  holds = λ i within. omega arith;
  least = λ k small. pow-pos k;
}

pub one_more : (numbers : List ℕ) (count all : ℕ) → Joins numbers count all → Joins numbers (count + 1) (bit_or all (get_or numbers count 0))
one_more numbers count all joins = record {
  holds = λ i within. holds i within (nat_eq i count) refl;
  least = λ k small. or_lt k all (get_or numbers count 0) (joins.least k small) (small count);
}
  where
    holds : (i : ℕ) → i < count + 1 → (b : Bool) → nat_eq i count ≡ b → get_or numbers i 0 ≤ bit_or all (get_or numbers count 0)
    holds i within true e = (let same : i ≡ count = grind (arith, nat_tests) in let here = ap (λ j. get_or numbers j 0) same in omega (arith, le_or_r all (get_or numbers count 0)))
    holds i within false e = (let before : i < count = grind (arith, nat_tests) in omega (arith, le_or_l all (get_or numbers count 0), joins.holds i before))

-- the length of all
pub length_holds : (numbers : List ℕ) (all : ℕ) → all < 2 ^ 32 → Joins numbers (length numbers) all → (i : ℕ) → get_or numbers i 0 < 2 ^ (32 - leading_zeros w32 all)
length_holds numbers all fits joins i =
    let bits = leading_length 32 all fits in
    let width : bits.0 ≡ 32 - leading_zeros w32 all = omega (arith, bits.1) in
    let P : ℕ → Type 0 = λ m. get_or numbers i 0 < 2 ^ m in
    subst P width (below bits.0 bits.2 (nat_lt i (length numbers)) refl)
  where
    below : (m : ℕ) → all < 2 ^ m → (b : Bool) → nat_lt i (length numbers) ≡ b → get_or numbers i 0 < 2 ^ m
    below m small true e = (let within : i < length numbers = grind (arith, nat_tests) in omega (arith, joins.holds i within))
    below m small false e = (let past : length numbers ≤ i = grind (arith, nat_tests) in omega (arith, get_or_past numbers i 0 past))

pub length_least : (numbers : List ℕ) (all : ℕ) → all < 2 ^ 32 → Joins numbers (length numbers) all → IsLeastWidth (32 - leading_zeros w32 all) numbers
length_least numbers all fits joins k small =
    let bits = leading_length 32 all fits in
    let below : all < 2 ^ k = joins.least k small in
    let next : 2 ^ suc k ≡ 2 ^ k * 2 = pow-suc 2 k in
    let more : bits.0 < suc k = takes_more bits.0 (suc k) (2 * all + 1) bits.3 (omega arith) in
    omega (arith, bits.1)
