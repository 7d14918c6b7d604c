-- The order of terms is that of their values.
use Rattle.std.proofs.Common.{[], Bool, FitsSigned, List, ap, ap₂, arith, false, if◌then◌else◌, lit<, nat_abs, negsuc, pos, refl, suc, sym, true, zero, ℕ, ℤ, ◌%◌, ◌*ℤ◌, ◌*◌, ◌++◌, ◌+ℤ◌, ◌+◌, ◌/◌, ◌<ℤ◌, ◌<◌, ◌^◌, ◌∙◌, ◌∷◌, ◌≡◌, ◌≢◌, ◌≤◌, length}
use Rattle.std.specs.Cmp.{int_cmp_is}
use Rattle.std.specs.Cmp.Lexicographic.{slice_cmp}
use Rattle.std.specs.Int.{bytes_high_first, to_be_bytes, w32, w64}
use Rattle.std.specs.Int.RustNames.{int_div}
use Rattle.std.specs.List.{AllByRecursion}
use Rattle.std.specs.Ordering.{bool_cmp, int_cmp, nat_cmp, ordering_then}
use Rattle.std.specs.declared.cmp.Ordering.{Ordering}
use Rattle.std.specs.declared.cmp.Ordering.TheVariants.{Equal, Greater, Less}
use Rattle.std.proofs.Math.Arith.{mod-mul}
use Rattle.std.proofs.Math.Nat.{mod-eq_of_lt, mul-le-mul_right, pos_of_ne-zero, pow-succ', suc-mul}
use Rattle.std.proofs.lemmas.Cmp.{by_ranked, int_ranked, ranked}
use Rattle.std.proofs.lemmas.Int.{ints}
use Rattle.std.proofs.lemmas.Nat.{mod_below}
use Rattle.definitions.proofs.Bounds.{same_at as equal}
use Rattle.definitions.proofs.Lists.{base_pos, byte_is}
use Rattle.definitions.proofs.PrefixRanges.{is_less as less, is_greater as greater}
use Rattle.definitions.specs.Schema.{Kind}
use Rattle.definitions.specs.Terms.{signed_bytes, term_bytes, type_code, whole_seconds}

-- ---- numbers as bytes

-- a greater high digit makes a greater number
above : (a b r base : ℕ) → a < b → r < base → a * base + r < b * base
above a b r base h small =
    let next : suc a * base ≤ b * base = mul-le-mul_right base (let up : suc a ≤ b = omega arith in up) in
    omega (arith, suc-mul a base, next)

-- by the high digit, and then by what is below it
two_digits : (a b r s base : ℕ) → r < base → s < base → nat_cmp (a * base + r) (b * base + s) ≡ ordering_then (nat_cmp a b) (nat_cmp r s)
two_digits a b r s base small below =
    by_ranked (a < b) (a ≡ b) (b < a) (nat_cmp a b) (ranked a b (nat_cmp a b) refl)
    (λ is h. rw is (less (a * base + r) (b * base + s) (let up = above a b r base h small in omega (arith, up))))
    (λ is h. rw (is, h) (tail (b * base)))
    (λ is h. rw is (greater (a * base + r) (b * base + s) (let up = above b a s base h below in omega (arith, up))))
  where
    tail : (high : ℕ) → nat_cmp (high + r) (high + s) ≡ nat_cmp r s
    tail high = by_ranked (r < s) (r ≡ s) (s < r) (nat_cmp r s) (ranked r s (nat_cmp r s) refl)
        (λ is h. less (high + r) (high + s) (omega arith) ∙ sym is)
        (λ is h. equal (high + r) (high + s) (omega arith) ∙ sym is)
        (λ is h. greater (high + r) (high + s) (omega arith) ∙ sym is)

split : (k n : ℕ) → n % 256 ^ suc k ≡ (n / 256 ^ k % 256) * 256 ^ k + n % 256 ^ k
split k n = ap (λ base. n % base) (pow-succ' 256 k) ∙ mod-mul n (lit< tt) (base_pos k)

-- numbers of as many bytes
pub bytes_order : (k m n : ℕ) → slice_cmp nat_cmp (bytes_high_first k m) (bytes_high_first k n) ≡ nat_cmp (m % 256 ^ k) (n % 256 ^ k)
bytes_order zero m n = sym (equal (m % 1) (n % 1) (omega arith))
bytes_order (suc k) m n =
    ap₂ ordering_then (ap₂ nat_cmp (byte_is k m) (byte_is k n)) (bytes_order k m n)
    ∙ sym (two_digits (m / 256 ^ k % 256) (n / 256 ^ k % 256) (m % 256 ^ k) (n % 256 ^ k) (256 ^ k) (mod_below m (256 ^ k) (base_pos k)) (mod_below n (256 ^ k) (base_pos k)))
    ∙ sym (ap₂ nat_cmp (split k m) (split k n))

pub below_order : (k m n : ℕ) → m < 256 ^ k → n < 256 ^ k → slice_cmp nat_cmp (bytes_high_first k m) (bytes_high_first k n) ≡ nat_cmp m n
below_order k m n small below = bytes_order k m n ∙ ap₂ nat_cmp (mod-eq_of_lt small) (mod-eq_of_lt below)

-- ---- signed numbers and instants

-- with the sign bit flipped they fit 64 bits, and keep their order
flipped_fits : (z : ℤ) → FitsSigned w64 z → nat_abs (z +ℤ pos (2 ^ 63)) < 2 ^ 64
flipped_fits z fits = omega (arith, ints)

flipped_order : (y z : ℤ) → FitsSigned w64 y → FitsSigned w64 z → nat_cmp (nat_abs (y +ℤ pos (2 ^ 63))) (nat_abs (z +ℤ pos (2 ^ 63))) ≡ int_cmp y z
flipped_order y z first second =
    by_ranked (y <ℤ z) (y ≡ z) (z <ℤ y) (int_cmp y z) (int_ranked y z (int_cmp y z) refl)
    (λ is h. less (nat_abs (y +ℤ pos (2 ^ 63))) (nat_abs (z +ℤ pos (2 ^ 63))) (omega (arith, ints)) ∙ sym is)
    (λ is h. equal (nat_abs (y +ℤ pos (2 ^ 63))) (nat_abs (z +ℤ pos (2 ^ 63))) (ap (λ x. nat_abs (x +ℤ pos (2 ^ 63))) h) ∙ sym is)
    (λ is h. greater (nat_abs (y +ℤ pos (2 ^ 63))) (nat_abs (z +ℤ pos (2 ^ 63))) (omega (arith, ints)) ∙ sym is)

pub signed_order : (y z : ℤ) → FitsSigned w64 y → FitsSigned w64 z → slice_cmp nat_cmp (signed_bytes y) (signed_bytes z) ≡ int_cmp y z
signed_order y z first second = below_order 8 (nat_abs (y +ℤ pos (2 ^ 63))) (nat_abs (z +ℤ pos (2 ^ 63))) (flipped_fits y first) (flipped_fits z second) ∙ flipped_order y z first second

whole_fits : (z : ℤ) → FitsSigned w64 z → FitsSigned w64 (whole_seconds z)
whole_fits (pos n) fits = (let cut : n / 10 ^ 9 * 10 ^ 9 ≤ n = omega arith in omega (arith, ints))
whole_fits (negsuc n) fits = (let cut : suc n / 10 ^ 9 * 10 ^ 9 ≤ suc n = omega arith in omega (arith, ints))

seconds_order : (a b : ℤ) → int_cmp (a *ℤ pos (10 ^ 9)) (b *ℤ pos (10 ^ 9)) ≡ int_cmp a b
seconds_order a b =
    by_ranked (a <ℤ b) (a ≡ b) (b <ℤ a) (int_cmp a b) (int_ranked a b (int_cmp a b) refl)
    (λ is h. sym (int_cmp_is (a *ℤ pos (10 ^ 9)) (b *ℤ pos (10 ^ 9)) Less (omega (arith, ints))) ∙ sym is)
    (λ is h. ap (λ x. int_cmp (x *ℤ pos (10 ^ 9)) (b *ℤ pos (10 ^ 9))) h ∙ sym (int_cmp_is (b *ℤ pos (10 ^ 9)) (b *ℤ pos (10 ^ 9)) Equal refl) ∙ sym is)
    (λ is h. sym (int_cmp_is (a *ℤ pos (10 ^ 9)) (b *ℤ pos (10 ^ 9)) Greater (omega (arith, ints))) ∙ sym is)

pub date_order : (y z : ℤ) → FitsSigned w64 y → FitsSigned w64 z → slice_cmp nat_cmp (signed_bytes (whole_seconds y)) (signed_bytes (whole_seconds z)) ≡ int_cmp (int_div y (pos (10 ^ 9))) (int_div z (pos (10 ^ 9)))
date_order y z first second = signed_order (whole_seconds y) (whole_seconds z) (whole_fits y first) (whole_fits z second) ∙ seconds_order (int_div y (pos (10 ^ 9))) (int_div z (pos (10 ^ 9)))

pub bool_order : (b c : Bool) → slice_cmp nat_cmp (bytes_high_first 8 (if b then 1 else 0)) (bytes_high_first 8 (if c then 1 else 0)) ≡ bool_cmp b c
bool_order false false = refl
bool_order false true = refl
bool_order true false = refl
bool_order true true = refl

-- ---- bytes behind others

-- behind the same bytes
pub same_front : (front x y : List ℕ) → slice_cmp nat_cmp (front ++ x) (front ++ y) ≡ slice_cmp nat_cmp x y
same_front [] x y = refl
same_front (b ∷ front) x y = rw (equal b b refl) (same_front front x y)

-- terms of one field and type
pub same_kind : (f : ℕ) (k : Kind) (x y : List ℕ) → slice_cmp nat_cmp (term_bytes f k x) (term_bytes f k y) ≡ slice_cmp nat_cmp x y
same_kind f k x y = same_front (to_be_bytes w32 f) (type_code k ++ x) (type_code k ++ y) ∙ same_front (type_code k) x y

-- behind as many bytes that are less
less_front : (front after x y : List ℕ) → length front ≡ length after → slice_cmp nat_cmp front after ≡ Less → slice_cmp nat_cmp (front ++ x) (after ++ y) ≡ Less
less_front [] [] x y same is = cc
less_front [] (b ∷ after) x y same is = absurd (omega arith)
less_front (a ∷ front) [] x y same is = absurd (omega arith)
less_front (a ∷ front) (b ∷ after) x y same is = go (nat_cmp a b) is (less_front front after x y (omega arith))
  where
    go : (o : Ordering) → ordering_then o (slice_cmp nat_cmp front after) ≡ Less → (slice_cmp nat_cmp front after ≡ Less → slice_cmp nat_cmp (front ++ x) (after ++ y) ≡ Less) → ordering_then o (slice_cmp nat_cmp (front ++ x) (after ++ y)) ≡ Less
    go Less e rest = refl
    go Equal e rest = rest e
    go Greater e rest = cc

pub fields_order : (f g : ℕ) (x y : List ℕ) → f < g → g < 2 ^ 32 → slice_cmp nat_cmp (bytes_high_first 4 f ++ x) (bytes_high_first 4 g ++ y) ≡ Less
fields_order f g x y before small = less_front (bytes_high_first 4 f) (bytes_high_first 4 g) x y refl (below_order 4 f g (omega arith) small ∙ less f g before)

-- ---- paths

then_assoc : (o p q : Ordering) → ordering_then (ordering_then o p) q ≡ ordering_then o (ordering_then p q)
then_assoc Less p q = refl
then_assoc Equal p q = refl
then_assoc Greater p q = refl

pub paths_order : (p q x y : List ℕ) → AllByRecursion (λ b. b ≢ 0) p → AllByRecursion (λ b. b ≢ 0) q → slice_cmp nat_cmp (p ++ (0 ∷ x)) (q ++ (0 ∷ y)) ≡ ordering_then (slice_cmp nat_cmp p q) (slice_cmp nat_cmp x y)
paths_order [] [] x y first second = refl
paths_order [] (b ∷ q) x y first second = rw (less 0 b (let other = second.0 in pos_of_ne-zero other)) refl
paths_order (a ∷ p) [] x y first second = rw (greater a 0 (let other = first.0 in pos_of_ne-zero other)) refl
paths_order (a ∷ p) (b ∷ q) x y first second = ap (ordering_then (nat_cmp a b)) (paths_order p q x y first.1 second.1) ∙ sym (then_assoc (nat_cmp a b) (slice_cmp nat_cmp p q) (slice_cmp nat_cmp x y))
