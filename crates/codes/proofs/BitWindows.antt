-- Eight bytes of a list are a window of its number, and a field lies inside a window.
use Rattle.std.proofs.Common.{ℕ, zero, suc, List, [], ◌∷◌, ◌≡◌, ◌≤◌, ◌<◌, ◌+◌, ◌-◌, ◌*◌, ◌/◌, ◌%◌, ◌^◌, refl, sym, ap, ap₂, ◌∙◌, arith, get_or, length, take, drop, bit_and, length-drop, length-take, add-mul, mul_assoc, ◌++◌, replicate}
use Rattle.std.proofs.lemmas.List.{get_or-drop}
use Rattle.std.specs.Int.{from_le_bytes, w64}
use Rattle.common.proofs.DigitNumbers.{AreDigits, digits-tail, field_from, number-drop, number-take, number_of_eight, power_of, window_field}
use Rattle.codes.specs.BlockFields.{field}
use lib.Lanes.{number_l}

first_eight : (xs : List ℕ) → 8 ≤ length xs → (get_or xs 0 0 ∷ get_or xs 1 0 ∷ get_or xs 2 0 ∷ get_or xs 3 0 ∷ get_or xs 4 0 ∷ get_or xs 5 0 ∷ get_or xs 6 0 ∷ get_or xs 7 0 ∷ []) ≡ take 8 xs
first_eight (a ∷ b ∷ c ∷ d ∷ e ∷ f ∷ g ∷ h ∷ more) long = refl
first_eight [] long = absurd (omega arith)
first_eight (a ∷ []) long = absurd (omega arith)
first_eight (a ∷ b ∷ []) long = absurd (omega arith)
first_eight (a ∷ b ∷ c ∷ []) long = absurd (omega arith)
first_eight (a ∷ b ∷ c ∷ d ∷ []) long = absurd (omega arith)
first_eight (a ∷ b ∷ c ∷ d ∷ e ∷ []) long = absurd (omega arith)
first_eight (a ∷ b ∷ c ∷ d ∷ e ∷ f ∷ []) long = absurd (omega arith)
first_eight (a ∷ b ∷ c ∷ d ∷ e ∷ f ∷ g ∷ []) long = absurd (omega arith)

pub digits-drop : (p m : ℕ) (xs : List ℕ) → AreDigits p xs → AreDigits p (drop m xs)
digits-drop p zero xs digits = digits
digits-drop p (suc m) [] digits = digits
digits-drop p (suc m) (x ∷ xs) digits = digits-drop p m xs (digits-tail p x xs digits)

-- the bytes from an index on
window_from : (at : ℕ) (bytes : List ℕ) → AreDigits 256 bytes → number_l 256 (drop at bytes) ≡ number_l 256 bytes / 2 ^ (8 * at)
window_from at bytes digits = sym (number-drop 256 at bytes digits) ∙ ap (λ p. number_l 256 bytes / p) (power_of 8 at ∙ ap (λ k. 2 ^ k) (omega arith))

-- a cell of the rest is a cell of the whole
cell : (bytes : List ℕ) (at index k : ℕ) {xs ys : List ℕ} → index ≡ at + k → xs ≡ ys → (get_or bytes index 0 ∷ xs) ≡ (get_or (drop at bytes) k 0 ∷ ys)
cell bytes at index k {xs} {ys} is same = ap₂ (λ x zs. x ∷ zs) (ap (λ i. get_or bytes i 0) is ∙ sym (get_or-drop at bytes k 0)) same

pub window_eight : (at : ℕ) (bytes : List ℕ) → AreDigits 256 bytes → at + 8 ≤ length bytes → from_le_bytes w64 (get_or bytes at 0 ∷ get_or bytes (at + 1) 0 ∷ get_or bytes (at + 2) 0 ∷ get_or bytes (at + 3) 0 ∷ get_or bytes (at + 4) 0 ∷ get_or bytes (at + 5) 0 ∷ get_or bytes (at + 6) 0 ∷ get_or bytes (at + 7) 0 ∷ []) ≡ number_l 256 bytes / 2 ^ (8 * at) % 2 ^ 64
window_eight at bytes digits inside =
    let rest = drop at bytes in
    let long : 8 ≤ length rest = omega (arith, length-drop at bytes) in
    let eight : (get_or bytes at 0 ∷ get_or bytes (at + 1) 0 ∷ get_or bytes (at + 2) 0 ∷ get_or bytes (at + 3) 0 ∷ get_or bytes (at + 4) 0 ∷ get_or bytes (at + 5) 0 ∷ get_or bytes (at + 6) 0 ∷ get_or bytes (at + 7) 0 ∷ []) ≡ take 8 rest =
    cell bytes at at 0 (omega arith) (cell bytes at (at + 1) 1 refl (cell bytes at (at + 2) 2 refl (cell bytes at (at + 3) 3 refl (cell bytes at (at + 4) 4 refl (cell bytes at (at + 5) 5 refl (cell bytes at (at + 6) 6 refl (cell bytes at (at + 7) 7 refl refl)))))))
    ∙ first_eight rest long in
    ap (λ bs. from_le_bytes w64 bs) eight
    ∙ number_of_eight (take 8 rest) (omega (arith, length-take 8 rest))
    ∙ sym (number-take 256 8 rest (digits-drop 256 at bytes digits))
    ∙ ap (λ n. n % 2 ^ 64) (window_from at bytes digits)

-- the bits that code takes out of the word with them
pub field_of_word : (n w group index word : ℕ) → w ≤ 32 → word ≡ n / 2 ^ (8 * (group * w + index * w / 8)) % 2 ^ 64 → bit_and (word / 2 ^ (index * w % 8)) (1 * 2 ^ w % 2 ^ 64 - 1) ≡ field w n (8 * group + index)
field_of_word n w group index word few is =
    let inside : index * w % 8 + w ≤ 64 = omega arith in
    let at : 8 * (group * w + index * w / 8) + index * w % 8 ≡ (8 * group + index) * w = (let spread : (8 * group + index) * w ≡ 8 * (group * w) + index * w = add-mul (8 * group) index w ∙ ap (λ m. m + index * w) (mul_assoc 8 group w) in omega arith) in
    field_from word (index * w % 8) w (omega arith)
    ∙ ap (λ m. m / 2 ^ (index * w % 8) % 2 ^ w) is
    ∙ window_field n (8 * (group * w + index * w / 8)) (index * w % 8) w 64 inside
    ∙ ap (λ k. n / 2 ^ k % 2 ^ w) at

pub digits-append : (p : ℕ) (xs ys : List ℕ) → AreDigits p xs → AreDigits p ys → AreDigits p (xs ++ ys)
digits-append p [] ys front back i = back i
digits-append p (x ∷ xs) ys front back zero = front 0
digits-append p (x ∷ xs) ys front back (suc i) = digits-append p xs ys (digits-tail p x xs front) back i

pub digits-zeros : (p n : ℕ) → 0 < p → AreDigits p (replicate n 0)
digits-zeros p zero some i = some
digits-zeros p (suc n) some zero = some
digits-zeros p (suc n) some (suc i) = digits-zeros p n some i
