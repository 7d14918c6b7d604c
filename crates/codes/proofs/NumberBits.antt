-- A number bit by bit.
use Rattle.std.proofs.Common.{ℕ, List, ◌≡◌, ◌≤◌, ◌<◌, ◌+◌, ◌*◌, ◌/◌, ◌%◌, ◌^◌, sym, ap, ap₂, ◌∙◌, arith, get_or, length, bit_and, bit_or, mul_comm, pow-suc, subst, take, take_all}
use Rattle.std.proofs.Math.Nat.{mod-lt}
use Rattle.std.proofs.Math.Arith.{mod-mul}
use Rattle.std.proofs.lemmas.Nat.{and_mask, shl_whole, shr-shr}
use Rattle.std.specs.Int.Bits.{or_shifted_r}
use Rattle.common.proofs.DigitNumbers.{AreDigits, number-digit, power_of, window_field}
use Rattle.codes.proofs.BlockPackings.{field_taken, numbers_read, pow-pos}
use Rattle.codes.specs.BlockFields.{field}
use Rattle.layouts.specs.PackedBlocks.{IsPacked}
use lib.Lanes.{number_l}

-- a bit as code takes it
pub bit_taken : (bytes : List ℕ) (index : ℕ) → AreDigits 256 bytes → bit_and (get_or bytes (index / 8) 0 / 2 ^ (index % 8)) 1 ≡ number_l 256 bytes / 2 ^ index % 2
bit_taken bytes index digits =
    let n = number_l 256 bytes in
    and_mask (get_or bytes (index / 8) 0 / 2 ^ (index % 8)) 1
    ∙ ap (λ b. b / 2 ^ (index % 8) % 2) (sym (number-digit 256 (index / 8) bytes digits) ∙ ap (λ p. n / p % 2 ^ 8) (power_of 8 (index / 8)))
    ∙ window_field n (index / 8 * 8) (index % 8) 1 8 (omega arith)
    ∙ ap (λ j. n / 2 ^ j % 2) (omega arith)

-- one bit more above the others
pub bit_added : (n from j number : ℕ) → j < 32 → number ≡ n / 2 ^ from % 2 ^ j → bit_or number (n / 2 ^ (from + j) % 2 * 2 ^ j % 2 ^ 32) ≡ n / 2 ^ from % 2 ^ (j + 1)
bit_added n from j number few is =
    let m = n / 2 ^ from in
    let bit = n / 2 ^ (from + j) % 2 in
    let small : number < 2 ^ j = (let P : ℕ → Type 0 = λ x. x < 2 ^ j in subst P (sym is) (mod-lt m (pow-pos j))) in
    let split : m % (2 ^ j * 2) ≡ m / 2 ^ j % 2 * 2 ^ j + m % 2 ^ j = ap (λ p. m % p) (mul_comm (2 ^ j) 2) ∙ mod-mul m {m = 2} {c = 2 ^ j} (omega arith) (pow-pos j) in
    ap (λ b. bit_or number b) (shl_whole bit 1 j 32 (mod-lt (n / 2 ^ (from + j)) (omega arith)) (omega arith))
    ∙ or_shifted_r bit j number small
    ∙ ap₂ (λ q r. q % 2 * 2 ^ j + r) (sym (shr-shr n from j)) is
    ∙ sym split
    ∙ ap (λ p. m % p) (sym (pow-suc 2 j) ∙ ap (λ k. 2 ^ k) (omega arith))

-- the numbers that code takes bit by bit
pub numbers_by_fields : (w : ℕ) (bytes out : List ℕ) → AreDigits 256 bytes → 16 * w ≤ length bytes → length out ≡ 128 → ((i : ℕ) → i < 128 → get_or out i 0 ≡ field w (number_l 256 bytes) i) → IsPacked w out (take (16 * w) bytes)
numbers_by_fields w bytes out digits room count fields =
    let P : List ℕ → Type 0 = λ xs. IsPacked w xs (take (16 * w) bytes) in
    subst P (take_all 128 out (omega (arith, count))) (numbers_read w bytes out digits room count (λ i within. fields i within ∙ sym (field_taken w bytes digits i within)))
