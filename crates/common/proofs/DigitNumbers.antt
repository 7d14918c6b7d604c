-- A list of digits is one number, `number_l p digits`, the lowest digit first: its parts are parts of the list.
use Rattle.std.proofs.Common.{ℕ, zero, suc, List, [], ◌∷◌, ◌++◌, ◌≡◌, ◌≢◌, ◌≤◌, ◌<◌, ◌+◌, ◌-◌, ◌*◌, ◌/◌, ◌%◌, ◌^◌, Bool, true, false, refl, sym, ap, ap₂, ◌∙◌, arith, get_or, length, take, drop, mul_comm, mul_assoc, mul-add, add_assoc, bit_and, pow-suc, div-one, nat_eq, one-mul, suc-mul, zero-mul}
use Rattle.std.proofs.Math.Nat.{add-mul-div_left, add-mul-mod_self_left, div-div-eq-div-mul, div-eq_of_lt, mod-eq_of_lt, mod-one, pow-zero, zero-div, zero-mod, one-le-pow}
use Rattle.std.proofs.Math.Arith.{digits_lt, mod-mul}
use Rattle.std.proofs.Math.Pow.{mod-mod-pow}
use Rattle.std.proofs.lemmas.Bool.Decides.{nat_tests}
use Rattle.std.proofs.lemmas.List.{get_or-set_other, get_or-set_same}
use Rattle.std.proofs.lemmas.Grind.{same_number_lists}
use Rattle.std.proofs.lemmas.Nat.{and_mask, field_of, one_shl, pow-add, shr-shr}
use Rattle.std.specs.Int.{from_le_bytes, w32, w64}
use lib.Lanes.{number_l}
use lib.ListN.{set}

-- every element is a digit in base p
abbrev pub AreDigits : ℕ → List ℕ → Type 0
AreDigits p xs = (i : ℕ) → get_or xs i 0 < p

pub digits-tail : (p x : ℕ) (xs : List ℕ) → AreDigits p (x ∷ xs) → AreDigits p xs
digits-tail p x xs digits i = digits (suc i)

-- a list after another is worth the power of the base at its place
pub number-append : (p : ℕ) (xs ys : List ℕ) → number_l p (xs ++ ys) ≡ number_l p xs + p ^ length xs * number_l p ys
number-append p [] ys = (let one : p ^ 0 * number_l p ys ≡ number_l p ys = ap (λ n. n * number_l p ys) (pow-zero p) ∙ one-mul (number_l p ys) in omega arith)
number-append p (x ∷ xs) ys =
    let next : p ^ suc (length xs) ≡ p ^ length xs * p = pow-suc p (length xs) in
    let turned : p * (p ^ length xs * number_l p ys) ≡ p ^ length xs * p * number_l p ys = sym (mul_assoc p (p ^ length xs) (number_l p ys)) ∙ ap (λ n. n * number_l p ys) (mul_comm p (p ^ length xs)) in
    ap (λ n. x + p * n) (number-append p xs ys)
    ∙ ap (λ n. x + n) (mul-add p (number_l p xs) (p ^ length xs * number_l p ys) ∙ ap (λ n. p * number_l p xs + n) (turned ∙ ap (λ n. n * number_l p ys) (sym next)))
    ∙ sym (add_assoc x (p * number_l p xs) (p ^ suc (length xs) * number_l p ys))

-- the lowest digit, and the number of the others
lowest : (p x r : ℕ) → x < p → ((x + p * r) % p ≡ x) × ((x + p * r) / p ≡ r)
lowest p x r small = (add-mul-mod_self_left x p r ∙ mod-eq_of_lt small, omega (arith, add-mul-div_left x r {y = p} (omega arith), div-eq_of_lt small))

-- a power of the base one higher cuts one digit more
shifted : (p n m : ℕ) → n / p ^ suc m ≡ n / p / p ^ m
shifted p n m = ap (λ q. n / q) (pow-suc p m ∙ mul_comm (p ^ m) p) ∙ sym (div-div-eq-div-mul n p (p ^ m))

-- the number of the digits from a place on
pub number-drop : (p m : ℕ) (xs : List ℕ) → AreDigits p xs → number_l p xs / p ^ m ≡ number_l p (drop m xs)
number-drop p zero xs digits = ap (λ n. number_l p xs / n) (pow-zero p) ∙ div-one (number_l p xs)
number-drop p (suc m) [] digits = zero-div (p ^ suc m)
number-drop p (suc m) (x ∷ xs) digits = shifted p (x + p * number_l p xs) m ∙ ap (λ n. n / p ^ m) (lowest p x (number_l p xs) (digits 0)).1 ∙ number-drop p m xs (digits-tail p x xs digits)

-- the number of the digits before a place
pub number-take : (p m : ℕ) (xs : List ℕ) → AreDigits p xs → number_l p xs % p ^ m ≡ number_l p (take m xs)
number-take p zero xs digits = ap (λ n. number_l p xs % n) (pow-zero p) ∙ mod-one (number_l p xs)
number-take p (suc m) [] digits = zero-mod (p ^ suc m)
number-take p (suc m) (x ∷ xs) digits =
    let small : x < p = digits 0 in
    let parts = lowest p x (number_l p xs) small in
    ap (λ n. (x + p * number_l p xs) % n) (pow-suc p m)
    ∙ mod-mul (x + p * number_l p xs) {m = p ^ m} {c = p} (omega (arith, one-le-pow m p (omega arith))) (omega arith)
    ∙ ap₂ (λ high low. high % p ^ m * p + low) parts.1 parts.0
    ∙ ap (λ n. n * p + x) (number-take p m xs (digits-tail p x xs digits))
    ∙ omega (arith, mul_comm p (number_l p (take m xs)))

-- the digit at a place
pub number-digit : (p i : ℕ) (xs : List ℕ) → AreDigits p xs → number_l p xs / p ^ i % p ≡ get_or xs i 0
number-digit p zero xs digits = ap (λ n. n % p) (ap (λ n. number_l p xs / n) (pow-zero p) ∙ div-one (number_l p xs)) ∙ first xs digits
  where
    first : (ys : List ℕ) → AreDigits p ys → number_l p ys % p ≡ get_or ys 0 0
    first [] few = zero-mod p
    first (y ∷ ys) few = (lowest p y (number_l p ys) (few 0)).0
number-digit p (suc i) [] digits = ap (λ n. n % p) (zero-div (p ^ suc i)) ∙ zero-mod p
number-digit p (suc i) (x ∷ xs) digits = ap (λ n. n % p) (shifted p (x + p * number_l p xs) i ∙ ap (λ n. n / p ^ i) (lowest p x (number_l p xs) (digits 0)).1) ∙ number-digit p i xs (digits-tail p x xs digits)

-- digits are below the power of the base that their number tells
pub number-below : (p : ℕ) (xs : List ℕ) → AreDigits p xs → number_l p xs < p ^ length xs
number-below p [] digits = (let one : p ^ 0 ≡ 1 = pow-zero p in omega arith)
number-below p (x ∷ xs) digits =
    let next : p ^ suc (length xs) ≡ p ^ length xs * p = pow-suc p (length xs) in
    let small : number_l p xs * p + x < p ^ length xs * p = digits_lt (number-below p xs (digits-tail p x xs digits)) (digits 0) in
    let turned = mul_comm p (number_l p xs) in
    omega arith

-- lists of one length whose numbers are equal are equal
pub number-same : (p : ℕ) (xs ys : List ℕ) → length xs ≡ length ys → AreDigits p xs → AreDigits p ys → number_l p xs ≡ number_l p ys → xs ≡ ys
number-same p xs ys long xs_digits ys_digits same = same_number_lists xs ys long (λ i _. sym (number-digit p i xs xs_digits) ∙ ap (λ n. n / p ^ i % p) same ∙ number-digit p i ys ys_digits)

-- ---- bits of a number

-- a power of a power of two
pub power_of : (w i : ℕ) → (2 ^ w) ^ i ≡ 2 ^ (i * w)
power_of w zero = pow-zero (2 ^ w) ∙ ap (λ n. 2 ^ n) (sym (zero-mul w))
power_of w (suc i) = pow-suc (2 ^ w) i ∙ ap (λ n. n * 2 ^ w) (power_of w i) ∙ sym (pow-add 2 (i * w) w) ∙ ap (λ n. 2 ^ n) (sym (suc-mul i w))

-- bits of a window are bits of the whole
pub window_field : (n a s w t : ℕ) → s + w ≤ t → n / 2 ^ a % 2 ^ t / 2 ^ s % 2 ^ w ≡ n / 2 ^ (a + s) % 2 ^ w
window_field n a s w t inside =
    let rest : t ≡ t - s - w + w + s = omega arith in
    ap (λ k. n / 2 ^ a % 2 ^ k / 2 ^ s % 2 ^ w) rest
    ∙ ap (λ m. m % 2 ^ w) (field_of (n / 2 ^ a) (t - s - w + w) s)
    ∙ mod-mod-pow (n / 2 ^ a / 2 ^ s) (t - s - w) w
    ∙ ap (λ m. m % 2 ^ w) (shr-shr n a s)

-- as code takes them, by a shift and a mask
pub field_from : (word s w : ℕ) → w < 64 → bit_and (word / 2 ^ s) (1 * 2 ^ w % 2 ^ 64 - 1) ≡ word / 2 ^ s % 2 ^ w
field_from word s w few = ap (λ m. bit_and (word / 2 ^ s) (m - 1)) (one_shl w 64 few) ∙ and_mask (word / 2 ^ s) w

-- ---- lists that are filled place by place

-- one place more has its value
pub set_more : (f : ℕ → ℕ) (xs : List ℕ) (i v : ℕ) → i < length xs → ((k : ℕ) → k < i → get_or xs k 0 ≡ f k) → v ≡ f i → (k : ℕ) → k < i + 1 → get_or (set xs i v) k 0 ≡ f k
set_more f xs i v inside before here k within = go (nat_eq k i) refl
  where
    go : (b : Bool) → nat_eq k i ≡ b → get_or (set xs i v) k 0 ≡ f k
    go true e = (let same : k ≡ i = grind (arith, nat_tests) in ap (λ j. get_or (set xs i v) j 0) same ∙ get_or-set_same xs i v 0 inside ∙ here ∙ ap f (sym same))
    go false e = (let other : k ≢ i = grind (arith, nat_tests) in get_or-set_other xs i k v 0 other ∙ before k (omega arith))

-- ---- four and eight bytes

pub number_of_four : (bs : List ℕ) → length bs ≡ 4 → from_le_bytes w32 bs ≡ number_l 256 bs
number_of_four (a ∷ b ∷ c ∷ d ∷ []) four = omega arith
number_of_four [] four = absurd (omega arith)
number_of_four (a ∷ []) four = absurd (omega arith)
number_of_four (a ∷ b ∷ []) four = absurd (omega arith)
number_of_four (a ∷ b ∷ c ∷ []) four = absurd (omega arith)
number_of_four (a ∷ b ∷ c ∷ d ∷ e ∷ more) four = absurd (omega arith)

pub number_of_eight : (bs : List ℕ) → length bs ≡ 8 → from_le_bytes w64 bs ≡ number_l 256 bs
number_of_eight (a ∷ b ∷ c ∷ d ∷ e ∷ f ∷ g ∷ h ∷ []) eight = omega arith
number_of_eight [] eight = absurd (omega arith)
number_of_eight (a ∷ []) eight = absurd (omega arith)
number_of_eight (a ∷ b ∷ []) eight = absurd (omega arith)
number_of_eight (a ∷ b ∷ c ∷ []) eight = absurd (omega arith)
number_of_eight (a ∷ b ∷ c ∷ d ∷ []) eight = absurd (omega arith)
number_of_eight (a ∷ b ∷ c ∷ d ∷ e ∷ []) eight = absurd (omega arith)
number_of_eight (a ∷ b ∷ c ∷ d ∷ e ∷ f ∷ []) eight = absurd (omega arith)
number_of_eight (a ∷ b ∷ c ∷ d ∷ e ∷ f ∷ g ∷ []) eight = absurd (omega arith)
number_of_eight (a ∷ b ∷ c ∷ d ∷ e ∷ f ∷ g ∷ h ∷ i ∷ more) eight = absurd (omega arith)
