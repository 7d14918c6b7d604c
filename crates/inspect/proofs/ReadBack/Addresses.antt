-- Addresses are read back from their texts.
use Rattle.std.proofs.Common.{[], Bool, List, Some, ap, append-nil, arith, codes, false, if◌then◌else◌, inl, length, map, pow-suc, refl, subst, suc, sym, true, zero, ◌%◌, ◌+◌, ◌++◌, ◌/◌, ◌<◌, ◌==◌, ◌^◌, ◌∙◌, ◌∷◌, ◌≡◌, ◌≤◌, ℕ}
use Rattle.std.proofs.lemmas.Bool.{cond-true, eqb-true, false≢true, eq-eqb}
use Rattle.std.proofs.lemmas.Fmt.{digits_is_IsNumeral}
use Rattle.std.specs.Fmt.{digit_glyph, digits, digits_onto}
use Rattle.std.specs.Int.{to_be_bytes, w32}
use Rattle.std.specs.List.{AllByRecursion, join_with_byte}
use Rattle.std.specs.Net.Grammar.{IsDotted, IsGroup, IsGroups, IsGroupsAfter}
use Rattle.std.specs.Prelude.{slice_index}
use Rattle.definitions.specs.Addresses.{address_in, address_text, groups, groups_text, joined, mapped, quad_text}
use Rattle.values_json.proofs.AddressTexts.{groups_address, quad_address}
use Rattle.values_json.proofs.GroupTexts.{dotted_lacks_colon}
use Rattle.values_json.proofs.Parts.{Lacks}
use Rattle.values_json.proofs.QuadTexts.{dots}

-- ---- dotted quads

quad_dotted : (m : ℕ) → m < 2 ^ 32 → IsDotted (quad_text m) (to_be_bytes w32 m)
quad_dotted m h = record {
  a = slice_index (to_be_bytes w32 m) 0;
  b = slice_index (to_be_bytes w32 m) 1;
  c = slice_index (to_be_bytes w32 m) 2;
  d = slice_index (to_be_bytes w32 m) 3;
  fit = (omega arith, omega arith, omega arith, omega arith);
  value = refl;
  spelled = sym (dots (slice_index (to_be_bytes w32 m) 0) (slice_index (to_be_bytes w32 m) 1) (slice_index (to_be_bytes w32 m) 2) (slice_index (to_be_bytes w32 m) 3));
}

quad_joined : (m : ℕ) → m < 2 ^ 32 → joined 256 (to_be_bytes w32 m) ≡ m
quad_joined m h = omega (arith, h)

quad_back : (n : ℕ) → n / 2 ^ 32 ≡ 0xffff → address_in (quad_text (n % 2 ^ 32)) ≡ Some n
quad_back n is =
    let m = n % 2 ^ 32 in
    let whole : mapped (joined 256 (to_be_bytes w32 m)) ≡ n = (let bytes = quad_joined m (omega arith) in omega (arith, bytes, is)) in
    quad_address (quad_text m) (to_be_bytes w32 m) (quad_dotted m (omega arith)) ∙ ap Some whole

-- ---- eight groups

later_text : List ℕ → List ℕ
later_text [] = []
later_text (g ∷ gs) = codes ":" ++ (digits 16 false g ++ later_text gs)

-- a number below a power of 16 has at most that many digits
few_digits : (j k n : ℕ) (acc : List ℕ) → n < 16 ^ suc j → suc j ≤ k → length (digits_onto k 16 false n acc) ≤ suc j + length acc
few_digits j zero n acc small room = absurd (omega (arith, room))
few_digits zero (suc k) n acc small room =
    let none : n / 16 ≡ 0 = omega (arith, small) in
    let is = cond-true (n / 16 == 0) (digit_glyph false (n % 16) ∷ acc) (digits_onto k 16 false (n / 16) (digit_glyph false (n % 16) ∷ acc)) (eq-eqb (n / 16) 0 none) in
    subst (λ ds. length ds ≤ 1 + length acc) (sym is) (omega arith)
few_digits (suc j) (suc k) n acc small room =
    let power = pow-suc 16 (suc j) in
    let later = few_digits j k (n / 16) (digit_glyph false (n % 16) ∷ acc) (omega (arith, small, power)) (omega (arith, room)) in
    go (n / 16 == 0) later
  where
    go : (s : Bool) → length (digits_onto k 16 false (n / 16) (digit_glyph false (n % 16) ∷ acc)) ≤ suc j + suc (length acc) → length (if s then digit_glyph false (n % 16) ∷ acc else digits_onto k 16 false (n / 16) (digit_glyph false (n % 16) ∷ acc)) ≤ suc (suc j) + length acc
    go true later = omega arith
    go false later = omega (arith, later)

group_short : (g : ℕ) → g < 2 ^ 16 → length (digits 16 false g) ≤ 4
unfolding digits
group_short g h = (let few = few_digits 3 64 g [] (omega (arith, h)) (omega arith) in omega (arith, few))

group_is : (g : ℕ) → g < 2 ^ 16 → IsGroup (digits 16 false g) g
group_is g h = (digits_is_IsNumeral 16 false (omega arith) (omega arith) g (omega (arith, h)), group_short g h)

later_are : (gs : List ℕ) → AllByRecursion (λ g. g < 2 ^ 16) gs → IsGroupsAfter true (codes ":") (later_text gs) gs
unfolding later_text
later_are [] all = refl
later_are (g ∷ gs) all = inl (digits 16 false g, later_text gs, refl, group_is g all.0, later_are gs all.1)

joined_text : (g : ℕ) (gs : List ℕ) → join_with_byte 58 (map (digits 16 false) (g ∷ gs)) ≡ digits 16 false g ++ later_text gs
unfolding later_text
joined_text g [] = sym (append-nil (digits 16 false g))
joined_text g (h ∷ gs) = ap (λ t. digits 16 false g ++ (58 ∷ t)) (joined_text h gs)

lacks_not : (sep : ℕ) (xs ys : List ℕ) → Lacks sep (xs ++ (sep ∷ ys)) → ⊥
lacks_not sep [] ys h = false≢true (sym h.0 ∙ eq-eqb sep sep refl)
lacks_not sep (x ∷ xs) ys h = lacks_not sep xs ys h.1

-- what has two groups or more has a colon, and is no quad
no_dots : (g : ℕ) (gs : List ℕ) (text : List ℕ) → text ≡ digits 16 false g ++ later_text gs → 0 < length gs → (octets : List ℕ) → IsDotted text octets → ⊥
unfolding later_text
no_dots g [] text spelled some octets dotted = omega (arith, some)
no_dots g (h ∷ gs) text spelled some octets dotted = lacks_not 58 (digits 16 false g) (digits 16 false h ++ later_text gs) (subst (Lacks 58) spelled (dotted_lacks_colon text octets dotted))

groups_joined : (n : ℕ) → n < 2 ^ 128 → joined (2 ^ 16) (groups n) ≡ n
groups_joined n h = omega (arith, h)

each_below : (gs : List ℕ) → AllByRecursion (λ g. g < 2 ^ 16) (map (λ g. g % 2 ^ 16) gs)
each_below [] = tt
each_below (g ∷ gs) = (omega arith, each_below gs)

groups_back : (n : ℕ) → n < 2 ^ 128 → address_in (groups_text n) ≡ Some n
groups_back n h =
    let first = n / 2 ^ 112 % 2 ^ 16 in
    let more : List ℕ = n / 2 ^ 96 % 2 ^ 16 ∷ n / 2 ^ 80 % 2 ^ 16 ∷ n / 2 ^ 64 % 2 ^ 16 ∷ n / 2 ^ 48 % 2 ^ 16 ∷ n / 2 ^ 32 % 2 ^ 16 ∷ n / 2 ^ 16 % 2 ^ 16 ∷ n / 2 ^ 0 % 2 ^ 16 ∷ [] in
    let below : AllByRecursion (λ g. g < 2 ^ 16) more = each_below (n / 2 ^ 96 ∷ n / 2 ^ 80 ∷ n / 2 ^ 64 ∷ n / 2 ^ 48 ∷ n / 2 ^ 32 ∷ n / 2 ^ 16 ∷ n / 2 ^ 0 ∷ []) in
    let spelled : groups_text n ≡ digits 16 false first ++ later_text more = joined_text first more in
    let are : IsGroups true (groups_text n) (first ∷ more) = inl (digits 16 false first, later_text more, spelled, group_is first (omega arith), later_are more below) in
    groups_address (groups_text n) (first ∷ more) (no_dots first more (groups_text n) spelled (omega arith)) (inl (are, refl)) ∙ ap Some (groups_joined n h)

pub address_back : (n : ℕ) → n < 2 ^ 128 → address_in (address_text n) ≡ Some n
unfolding address_text
address_back n h = go (n / 2 ^ 32 == 0xffff) refl
  where
    go : (s : Bool) → (n / 2 ^ 32 == 0xffff) ≡ s → address_in (if s then quad_text (n % 2 ^ 32) else groups_text n) ≡ Some n
    go true is = quad_back n (eqb-true (n / 2 ^ 32) 0xffff is)
    go false is = groups_back n h
