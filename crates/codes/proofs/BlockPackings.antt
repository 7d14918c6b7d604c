-- A block is packed exactly where its numbers are the fields of its bytes as one number.
use Rattle.std.proofs.Common.{ℕ, zero, suc, List, [], ◌∷◌, ◌≡◌, ◌≤◌, ◌<◌, ◌+◌, ◌*◌, ◌/◌, ◌%◌, ◌^◌, Bool, true, false, refl, sym, ap, ap₂, ◌∙◌, arith, get_or, length, take, nat_lt, length-take, take_all, subst, mul_comm, suc-mul}
use Rattle.std.proofs.Math.Nat.{mod-lt, one-le-pow, pow-zero, div-one, mul-le-mul_left}
use Rattle.std.proofs.lemmas.Bool.Decides.{nat_tests}
use Rattle.std.proofs.lemmas.Grind.{same_number_lists}
use Rattle.std.proofs.lemmas.List.{get_or_past}
use Rattle.std.proofs.lemmas.Nat.Bits.{same_from_bits_below}
use Rattle.std.specs.Int.{bit_at}
use Rattle.common.proofs.DigitNumbers.{AreDigits, digits-tail, number-digit, number-take, power_of, window_field}
use Rattle.codes.specs.BlockFields.{field}
use Rattle.layouts.specs.PackedBlocks.{IsPacked, bit_in}
use lib.Lanes.{number_l}

-- a field of 128 lies inside the bits of the block
field_inside : (w i : ℕ) → i < 128 → i * w + w ≤ 128 * w
field_inside w i within = omega (arith, mul-le-mul_left w within, suc-mul i w, mul_comm w (suc i), mul_comm w 128)

-- fields of the block are those of the bytes that begin with it
pub field_taken : (w : ℕ) (bytes : List ℕ) → AreDigits 256 bytes → (i : ℕ) → i < 128 → field w (number_l 256 (take (16 * w) bytes)) i ≡ field w (number_l 256 bytes) i
field_taken w bytes digits i within =
    let n = number_l 256 bytes in
    ap (λ m. m / 2 ^ (i * w) % 2 ^ w) (sym (number-take 256 (16 * w) bytes digits) ∙ ap (λ p. n % p) (power_of 8 (16 * w) ∙ ap (λ k. 2 ^ k) (omega arith)) ∙ ap (λ m. m % 2 ^ (128 * w)) (sym (div-one n) ∙ ap (λ p. n / p) (sym (pow-zero 2))))
    ∙ window_field n 0 (i * w) w (128 * w) (field_inside w i within)
    ∙ ap (λ k. n / 2 ^ k % 2 ^ w) (omega arith)

-- a bit of the bytes is that bit of their number
bit_of_bytes : (bytes : List ℕ) (k : ℕ) → AreDigits 256 bytes → bit_in bytes k ≡ number_l 256 bytes / 2 ^ k % 2
bit_of_bytes bytes k digits =
    let n = number_l 256 bytes in
    ap (λ b. b / 2 ^ (k % 8) % 2) (sym (number-digit 256 (k / 8) bytes digits) ∙ ap (λ p. n / p % 2 ^ 8) (power_of 8 (k / 8)))
    ∙ window_field n (k / 8 * 8) (k % 8) 1 8 (omega arith)
    ∙ ap (λ j. n / 2 ^ j % 2) (omega arith)

-- a bit of a field is a bit of the number
bit_of_field : (w n i j : ℕ) → j < w → bit_at (field w n i) j ≡ n / 2 ^ (i * w + j) % 2
bit_of_field w n i j few =
    window_field n (i * w) j 1 w (omega arith)

pub pow-pos : (k : ℕ) → 0 < 2 ^ k
pow-pos k = omega (arith, one-le-pow k 2 (omega arith))

pub fields_are_packed : (w : ℕ) (numbers bytes : List ℕ) → length numbers ≡ 128 → length bytes ≡ 16 * w → AreDigits 256 bytes → ((i : ℕ) → i < 128 → get_or numbers i 0 ≡ field w (number_l 256 bytes) i) → IsPacked w numbers bytes
fields_are_packed w numbers bytes count long digits fields = record {
  count = count;
  long = long;
  small = λ i. small i (nat_lt i 128) refl;
  bits = λ i j within few. ap (λ n. bit_at n j) (fields i within) ∙ bit_of_field w (number_l 256 bytes) i j few ∙ sym (bit_of_bytes bytes (i * w + j) digits);
}
  where
    small : (i : ℕ) (b : Bool) → nat_lt i 128 ≡ b → get_or numbers i 0 < 2 ^ w
    small i true e = (let within : i < 128 = grind (arith, nat_tests) in let below = mod-lt (number_l 256 bytes / 2 ^ (i * w)) (pow-pos w) in omega (arith, fields i within))
    small i false e = (let past : length numbers ≤ i = grind (arith, nat_tests) in let none = get_or_past numbers i 0 past in omega (arith, pow-pos w))

-- no other numbers have these bytes
pub one_reading : (w : ℕ) (a b bytes : List ℕ) → IsPacked w a bytes → IsPacked w b bytes → a ≡ b
one_reading w a b bytes p q = same_number_lists a b (p.count ∙ sym q.count) (λ i within. same_from_bits_below w (get_or a i 0) (get_or b i 0) (p.small i) (q.small i) (λ j few. p.bits i j (omega (arith, p.count)) few ∙ sym (q.bits i j (omega (arith, p.count)) few)))

pub packed_are_fields : (w : ℕ) (numbers bytes : List ℕ) → AreDigits 256 bytes → IsPacked w numbers bytes → (i : ℕ) → i < 128 → get_or numbers i 0 ≡ field w (number_l 256 bytes) i
packed_are_fields w numbers bytes digits p i within = same_from_bits_below w (get_or numbers i 0) (field w (number_l 256 bytes) i) (p.small i) (mod-lt (number_l 256 bytes / 2 ^ (i * w)) (pow-pos w)) (λ j few. p.bits i j within few ∙ bit_of_bytes bytes (i * w + j) digits ∙ sym (bit_of_field w (number_l 256 bytes) i j few))

pub digits-take : (p m : ℕ) (xs : List ℕ) → AreDigits p xs → AreDigits p (take m xs)
digits-take p zero xs digits i = omega (arith, digits i)
digits-take p (suc m) [] digits i = digits i
digits-take p (suc m) (x ∷ xs) digits zero = digits 0
digits-take p (suc m) (x ∷ xs) digits (suc i) = digits-take p m xs (digits-tail p x xs digits) i

-- the numbers that code takes out of the bytes that a block begins
pub numbers_read : (w : ℕ) (bytes out : List ℕ) → AreDigits 256 bytes → 16 * w ≤ length bytes → length out ≡ 128 → ((i : ℕ) → i < 128 → get_or out i 0 ≡ field w (number_l 256 (take (16 * w) bytes)) i) → IsPacked w (take 128 out) (take (16 * w) bytes)
numbers_read w bytes out digits room count fields =
    let P : List ℕ → Type 0 = λ numbers. IsPacked w numbers (take (16 * w) bytes) in
    let whole : take 128 out ≡ out = take_all 128 out (omega (arith, count)) in
    subst P (sym whole) (fields_are_packed w out (take (16 * w) bytes) count (omega (arith, length-take (16 * w) bytes)) (digits-take 256 (16 * w) bytes digits) fields)

-- the numbers as digits of the same number are packed
pub digits_are_packed : (w : ℕ) (numbers bytes : List ℕ) → length numbers ≡ 128 → length bytes ≡ 16 * w → AreDigits 256 bytes → AreDigits (2 ^ w) numbers → number_l 256 bytes ≡ number_l (2 ^ w) numbers → IsPacked w numbers bytes
digits_are_packed w numbers bytes count long digits small same = fields_are_packed w numbers bytes count long digits (λ i within. sym (ap₂ (λ n p. n / p % 2 ^ w) same (sym (power_of w i)) ∙ number-digit (2 ^ w) i numbers small))
