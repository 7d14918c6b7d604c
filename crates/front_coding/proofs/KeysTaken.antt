-- Keys behind others are taken as they are put.
use Rattle.std.proofs.Common.{Bool, List, Option, Some, ap, ap₂, append_assoc, arith, drop, false, length, length-drop, refl, subst, sym, take, true, ◌++◌, ◌<◌, ◌≡◌, ◌∙◌, ◌^◌, ℕ}
use Rattle.std.specs.Cmp.Lexicographic.{slice_cmp}
use Rattle.std.specs.Ordering.{nat_cmp}
use Rattle.std.specs.declared.cmp.Ordering.TheVariants.{Less}
use Rattle.common.proofs.TakenBack.{bytes_back, bytes_put, vint_back, vint_put}
use Rattle.common.proofs.WordBytes.{back_bytes as bytes_behind}
use Rattle.definitions.proofs.Lists.{bind_some}
use Rattle.definitions.specs.Json.{only_if, ◌>>=◌}
use Rattle.definitions.specs.NumberCodes.{AreBytes, sized_bytes, take_bytes, take_vint, vint_bytes}
use Rattle.front_coding.proofs.SharedKeys.{above_from, next_is, shared_again, shared_within}
use Rattle.layouts.specs.TermSections.{next_key, shared}
use Rattle.front_coding.specs.TakenKeys.{is_next, take_next_key}

-- the key that an alike and a rest make
abbrev key_of : List ℕ → ℕ → List ℕ × List ℕ → Option (List ℕ × List ℕ)
key_of before alike rest = only_if (is_next before alike rest.0) (Some (take alike before ++ rest.0, rest.1))

pub next_back : (before key rest : List ℕ) → slice_cmp nat_cmp before key ≡ Less → length before < 2 ^ 64 → length key < 2 ^ 64 → take_next_key before (next_key before key ++ rest) ≡ Some (key, rest)
next_back before key rest below short_before short =
    let alike = shared before key in
    let left = drop alike key in
    let within = shared_within before key in
    let few : alike < 2 ^ 64 = (let w = within.0 in omega (arith, w, short_before)) in
    let small : length left < 2 ^ 64 = (let d = length-drop alike key in omega (arith, d, short)) in
    ap (take_next_key before) (append_assoc (vint_bytes alike) (sized_bytes left) rest)
    ∙ ap (λ o. o >>= (λ p. take_bytes p.1 >>= key_of before p.0)) (vint_back alike (sized_bytes left ++ rest) few)
    ∙ ap (λ o. o >>= key_of before alike) (bytes_back left rest small)
    ∙ ap (λ t. only_if t (Some (take alike before ++ left, rest))) (next_is before key below)
    ∙ ap (λ k. Some (k, rest)) (shared_again before key)

-- what a test lets through
pub test_passed : {A : Type 0} (t : Bool) (a r : A) → only_if t (Some a) ≡ Some r → (t ≡ true) × (a ≡ r)
test_passed true a r is = (refl, cc)
test_passed false a r is = absurd cc

pub next_put : (before bs key rest : List ℕ) → AreBytes bs → take_next_key before bs ≡ Some (key, rest) → (slice_cmp nat_cmp before key ≡ Less) × (bs ≡ next_key before key ++ rest)
next_put before bs key rest bytes taken =
    let alike = bind_some (take_vint bs) (λ p. take_bytes p.1 >>= key_of before p.0) (key, rest) taken in
    let left = bind_some (take_bytes alike.0.1) (key_of before alike.0.0) (key, rest) alike.2 in
    put alike.0 left.0 alike.1 left.1 left.2
  where
    put : (alike : ℕ × List ℕ) (left : List ℕ × List ℕ) → take_vint bs ≡ Some alike → take_bytes alike.1 ≡ Some left → key_of before alike.0 left ≡ Some (key, rest) → (slice_cmp nat_cmp before key ≡ Less) × (bs ≡ next_key before key ++ rest)
    put alike left first second third =
        let passed = test_passed (is_next before alike.0 left.0) (take alike.0 before ++ left.0, left.1) (key, rest) third in
        let made : take alike.0 before ++ left.0 ≡ key = ap (λ (p : List ℕ × List ℕ). p.0) passed.1 in
        let after : left.1 ≡ rest = ap (λ (p : List ℕ × List ℕ). p.1) passed.1 in
        let is = above_from before alike.0 left.0 passed.0 in
        let one = vint_put bs alike.0 alike.1 bytes first in
        let two = bytes_put alike.1 left.0 left.1 (bytes_behind (vint_bytes alike.0) alike.1 (subst AreBytes one.1 bytes)) second in
        let shares : shared before key ≡ alike.0 = ap (shared before) (sym made) ∙ is.shares in
        let leaves : drop (shared before key) key ≡ left.0 = ap₂ drop shares (sym made) ∙ is.leaves in
        let whole : bs ≡ vint_bytes alike.0 ++ (sized_bytes left.0 ++ rest) = one.1 ∙ ap (λ xs. vint_bytes alike.0 ++ xs) (two.1 ∙ ap (λ xs. sized_bytes left.0 ++ xs) after) in
        let spelled : next_key before key ≡ vint_bytes alike.0 ++ sized_bytes left.0 = ap₂ (λ n xs. vint_bytes n ++ sized_bytes xs) shares leaves in
        (subst (λ k. slice_cmp nat_cmp before k ≡ Less) made is.above, whole ∙ sym (append_assoc (vint_bytes alike.0) (sized_bytes left.0) rest) ∙ ap (λ xs. xs ++ rest) (sym spelled))
