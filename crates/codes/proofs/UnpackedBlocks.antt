-- The numbers of a packed block, and of what is left behind some.
use Rattle.std.proofs.Common.{[], List, ap, arith, drop, get_or, length, refl, suc, suc-mul, sym, zero, ◌%◌, ◌*◌, ◌+◌, ◌/◌, ◌<◌, ◌≡◌, ◌∙◌, ◌∷◌, ◌^◌, ℕ}
use Rattle.std.proofs.Math.Nat.{div-one, pow-zero}
use Rattle.std.proofs.lemmas.Grind.{same_number_lists}
use Rattle.std.proofs.lemmas.Nat.{shr-shr}
use Rattle.std.proofs.Math.Seq.{drop-nil}
use Rattle.common.proofs.DigitNumbers.{AreDigits}
use Rattle.codes.proofs.BlockPackings.{packed_are_fields}
use Rattle.codes.specs.BlockFields.{field}
use Rattle.codes.specs.UnpackedBlocks.{unpacked}
use Rattle.layouts.specs.PackedBlocks.{IsPacked}
use lib.Lanes.{digits_l, number_l}

pub count_of_digits : (p n x : ℕ) → length (digits_l p n x) ≡ n
count_of_digits p zero x = refl
count_of_digits p (suc n) x = ap suc (count_of_digits p n (x / p))

digit_of : (w n x i : ℕ) → i < n → get_or (digits_l (2 ^ w) n x) i 0 ≡ field w x i
digit_of w zero x i within = absurd (omega arith)
digit_of w (suc n) x zero within =
    let none : 0 * w ≡ 0 = omega arith in
    ap (λ m. m % 2 ^ w) (sym (div-one x) ∙ ap (λ p. x / p) (sym (pow-zero 2)) ∙ ap (λ k. x / 2 ^ k) (sym none))
digit_of w (suc n) x (suc i) within =
    let next : w + i * w ≡ suc i * w = omega (arith, suc-mul i w) in
    digit_of w n (x / 2 ^ w) i (omega arith)
    ∙ ap (λ m. m % 2 ^ w) (shr-shr x w (i * w) ∙ ap (λ k. x / 2 ^ k) next)

pub unpacked_count : (w : ℕ) (bytes : List ℕ) → length (unpacked w bytes) ≡ 128
unfolding unpacked
unpacked_count w bytes = count_of_digits (2 ^ w) 128 (number_l 256 bytes)

pub unpacked_field : (w : ℕ) (bytes : List ℕ) (i : ℕ) → i < 128 → get_or (unpacked w bytes) i 0 ≡ field w (number_l 256 bytes) i
unfolding unpacked
unpacked_field w bytes i within = digit_of w 128 (number_l 256 bytes) i within

-- numbers that are packed are those that stand there
pub packed_is : (w : ℕ) (numbers bytes : List ℕ) → AreDigits 256 bytes → IsPacked w numbers bytes → numbers ≡ unpacked w bytes
packed_is w numbers bytes digits packed = same_number_lists numbers (unpacked w bytes) (packed.count ∙ sym (unpacked_count w bytes)) (λ i within. packed_are_fields w numbers bytes digits packed i (omega (arith, packed.count)) ∙ sym (unpacked_field w bytes i (omega (arith, packed.count))))

pub drop_drop : (m n : ℕ) (xs : List ℕ) → drop n (drop m xs) ≡ drop (m + n) xs
drop_drop zero n xs = ap (λ k. drop k xs) (omega arith)
drop_drop (suc m) n [] = drop-nil n ∙ sym (drop-nil (suc m + n))
drop_drop (suc m) n (x ∷ xs) = drop_drop m n xs ∙ ap (λ k. drop k (x ∷ xs)) (let e : suc (m + n) ≡ suc m + n = omega arith in e)
