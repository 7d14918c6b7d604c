-- A block has one width and one list of bytes, and these compute.
use Rattle.std.proofs.Common.{[], ap, ap₂, arith, Bool, false, get_or, length, List, nat_lt, pow-suc, refl, suc, sym, true, true≢false, zero, ◌&&◌, ◌%◌, ◌*◌, ◌+◌, ◌/◌, ◌<◌, ◌≡◌, ◌≢◌, ◌≤◌, ◌∙◌, ◌∷◌, ◌^◌, ℕ, if◌then◌else◌}
use Rattle.std.proofs.Math.Nat.{div-lt_iff_lt-mul, mod-lt, pow-zero}
use Rattle.std.proofs.lemmas.Bool.Decides.{nat_tests}
use Rattle.std.specs.List.{list_all}
use Rattle.codes.proofs.BlockPackings.{digits_are_packed, pow-pos}
use Rattle.codes.proofs.UnpackedBlocks.{count_of_digits, packed_is}
use Rattle.codes.specs.UnpackedBlocks.{unpacked}
use Rattle.common.proofs.DigitNumbers.{AreDigits, number-below, number-same, power_of}
use Rattle.layouts.proofs.PackedTests.{all_below}
use Rattle.layouts.specs.PackedBlocks.{IsBlock, IsLeastWidth, IsPacked}
use Rattle.layouts.specs.PackedBytes.{packed_at, packed_bytes, width_from, width_of}
use lib.Lanes.{digits_l, number_l}

-- ---- the width

pub all_hold : (m : ℕ) (xs : List ℕ) → ((i : ℕ) → get_or xs i 0 < m) → list_all (λ x. nat_lt x m) xs ≡ true
all_hold m [] small = refl
all_hold m (x ∷ xs) small = (let first : nat_lt x m ≡ true = (let below : x < m = small 0 in grind (arith, nat_tests)) in ap₂ (λ a b. a && b) first (all_hold m xs (λ i. small (suc i))))

-- the first width that holds all is the least
first_width : (w : ℕ) (numbers : List ℕ) → ((i : ℕ) → get_or numbers i 0 < 2 ^ w) → IsLeastWidth w numbers → (more from : ℕ) → from ≤ w → w ≤ from + more → width_from more from numbers ≡ w
first_width w numbers holds least zero from low high = omega arith
first_width w numbers holds least (suc more) from low high = go (first_width w numbers holds least more (from + 1)) (list_all (λ n. nat_lt n (2 ^ from)) numbers) refl
  where
    go : (from + 1 ≤ w → w ≤ from + 1 + more → width_from more (from + 1) numbers ≡ w) → (b : Bool) → list_all (λ n. nat_lt n (2 ^ from)) numbers ≡ b → (if b then from else width_from more (from + 1) numbers) ≡ w
    go later true e = (let at_most : w ≤ from = least from (all_below (2 ^ from) numbers (pow-pos from) e) in omega arith)
    go later false e = later (omega (arith, differ)) (omega arith)
      where
        differ : from ≢ w
        differ same = true≢false (sym (all_hold (2 ^ w) numbers holds) ∙ ap (λ k. list_all (λ n. nat_lt n (2 ^ k)) numbers) (sym same) ∙ e)

pub width_is : (w : ℕ) (numbers : List ℕ) → w ≤ 32 → ((i : ℕ) → get_or numbers i 0 < 2 ^ w) → IsLeastWidth w numbers → width_of numbers ≡ w
unfolding width_of
width_is w numbers few holds least = first_width w numbers holds least 32 0 (omega arith) (omega arith)

-- ---- the bytes

number_of_digits : (p n x : ℕ) → 0 < p → x < p ^ n → number_l p (digits_l p n x) ≡ x
number_of_digits p zero x some small = (let one : p ^ 0 ≡ 1 = pow-zero p in omega arith)
number_of_digits p (suc n) x some small =
    let next : p ^ suc n ≡ p ^ n * p = pow-suc p n in
    let within : x < p ^ n * p = omega arith in
    let below : x / p < p ^ n = (div-lt_iff_lt-mul some).1 within in
    ap (λ m. x % p + p * m) (number_of_digits p n (x / p) some below) ∙ parted
  where
    parted : x % p + p * (x / p) ≡ x
    parted = omega arith

digits_fit : (p n x : ℕ) → 0 < p → AreDigits p (digits_l p n x)
digits_fit p zero x some i = some
digits_fit p (suc n) x some zero = mod-lt x some
digits_fit p (suc n) x some (suc i) = digits_fit p n (x / p) some i

-- bytes of a packed block are those that compute
pub packed_are : (w : ℕ) (numbers bytes : List ℕ) → AreDigits 256 bytes → IsPacked w numbers bytes → bytes ≡ packed_at w numbers
unfolding packed_at unpacked
packed_are w numbers bytes digits packed =
    let n : ℕ = number_l 256 bytes in
    let below : n < 256 ^ length bytes = number-below 256 bytes digits in
    let size : 256 ^ length bytes ≡ (2 ^ w) ^ 128 = ap (λ k. 256 ^ k) packed.long ∙ power_of 8 (16 * w) ∙ ap (λ k. 2 ^ k) bits ∙ sym (power_of w 128) in
    let fits : n < (2 ^ w) ^ 128 = omega arith in
    let same : number_l (2 ^ w) numbers ≡ n = ap (number_l (2 ^ w)) (packed_is w numbers bytes digits packed) ∙ number_of_digits (2 ^ w) 128 n (pow-pos w) fits in
    number-same 256 bytes (digits_l 256 (16 * w) (number_l (2 ^ w) numbers)) (packed.long ∙ sym (count_of_digits 256 (16 * w) (number_l (2 ^ w) numbers))) digits (digits_fit 256 (16 * w) (number_l (2 ^ w) numbers) (omega arith))
    (sym (number_of_digits 256 (16 * w) n (omega arith) within) ∙ ap (λ m. number_l 256 (digits_l 256 (16 * w) m)) (sym same))
  where
    bits : 16 * w * 8 ≡ 128 * w
    bits = omega arith

    within : number_l 256 bytes < 256 ^ (16 * w)
    within = (let below = number-below 256 bytes digits in let size = ap (λ k. 256 ^ k) packed.long in omega arith)

-- a block has this width and these bytes
pub block_is : (w : ℕ) (numbers bytes : List ℕ) → AreDigits 256 bytes → IsBlock w numbers bytes → (w ≡ width_of numbers) × (bytes ≡ packed_bytes numbers)
block_is w numbers bytes digits block =
    let width = width_is w numbers block.width block.packed.small block.least in
    (sym width, packed_are w numbers bytes digits block.packed ∙ ap (λ k. packed_at k numbers) (sym width))

-- 128 numbers that fit a width are packed so
pub packed_stands : (w : ℕ) (numbers : List ℕ) → length numbers ≡ 128 → ((i : ℕ) → get_or numbers i 0 < 2 ^ w) → IsPacked w numbers (packed_at w numbers)
unfolding packed_at
packed_stands w numbers count holds =
    let m : ℕ = number_l (2 ^ w) numbers in
    digits_are_packed w numbers (digits_l 256 (16 * w) m) count (count_of_digits 256 (16 * w) m) (digits_fit 256 (16 * w) m (omega arith)) holds (number_of_digits 256 (16 * w) m (omega arith) fits)
  where
    bits : 16 * w * 8 ≡ 128 * w
    bits = omega arith

    fits : number_l (2 ^ w) numbers < 256 ^ (16 * w)
    fits =
        let below = number-below (2 ^ w) numbers holds in
        let size : (2 ^ w) ^ length numbers ≡ 256 ^ (16 * w) = ap (λ k. (2 ^ w) ^ k) count ∙ power_of w 128 ∙ ap (λ k. 2 ^ k) (sym bits) ∙ sym (power_of 8 (16 * w)) in
        omega arith
