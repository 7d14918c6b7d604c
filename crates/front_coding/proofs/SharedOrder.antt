-- Order by what keys share.
use Rattle.std.proofs.Common.{[], Bool, List, None, Some, ap, arith, cond, drop, false, nat_eq, nat_lt, refl, suc, sym, true, zero, ◌+◌, ◌<◌, ◌≡◌, ◌≤◌, ◌∙◌, ◌∷◌, ℕ}
use Rattle.std.proofs.lemmas.Bool.Decides.{nat_tests}
use Rattle.std.proofs.lemmas.Map.Text.{is_eq-slice_cmp}
use Rattle.std.specs.Cmp.Lexicographic.{nat_list_cmp_total, slice_cmp}
use Rattle.std.specs.Ordering.{is_eq, nat_cmp, ordering_reverse, ordering_then}
use Rattle.std.specs.Prelude.{bytes_eq}
use Rattle.std.specs.declared.cmp.Ordering.{Ordering}
use Rattle.std.specs.declared.cmp.Ordering.TheVariants.{Greater, Less}
use Rattle.definitions.proofs.Bounds.{same_at}
use Rattle.definitions.proofs.PrefixRanges.{is_less as less_at, is_greater as more_at}
use Rattle.front_coding.proofs.TermsTaken.{less_of}
use Rattle.layouts.specs.TermSections.{Told, shared}
use Rattle.front_coding.specs.LookUps.{located}
use Rattle.front_coding.specs.TakenKeys.{Follow}

-- bytes that differ, of which the first stands below
below_of : (a b : ℕ) (o : Ordering) → nat_eq a b ≡ false → ordering_then (nat_cmp a b) o ≡ Less → a < b
below_of a b o other below = go (nat_lt a b) refl
  where
    go : (t : Bool) → nat_lt a b ≡ t → a < b
    go true e = grind (arith, nat_tests, e)
    go false e =
        let above : b < a = grind (arith, nat_tests, e, other) in
        let more : Greater ≡ Less = ap (λ x. ordering_then x o) (sym (more_at a b above)) ∙ below in
        absurd cc

-- a term that shares less with the one before than the key does stands above the key
pub above_key : (before t key : List ℕ) → slice_cmp nat_cmp before t ≡ Less → slice_cmp nat_cmp before key ≡ Less → shared before t < shared before key → slice_cmp nat_cmp key t ≡ Less
above_key [] t key one two less = absurd (omega (arith, less))
above_key (a ∷ before) [] key one two less = absurd cc
above_key (a ∷ before) (b ∷ t) [] one two less = absurd cc
above_key (a ∷ before) (b ∷ t) (c ∷ key) one two less = go (above_key before t key) (nat_eq a b) (nat_eq a c) refl refl less
  where
    go : (slice_cmp nat_cmp before t ≡ Less → slice_cmp nat_cmp before key ≡ Less → shared before t < shared before key → slice_cmp nat_cmp key t ≡ Less) → (p q : Bool) → nat_eq a b ≡ p → nat_eq a c ≡ q → cond p (suc (shared before t)) 0 < cond q (suc (shared before key)) 0 → slice_cmp nat_cmp (c ∷ key) (b ∷ t) ≡ Less
    go ih p false e f l = absurd (omega (arith, l))
    go ih false true e f l =
        let same : a ≡ c = grind (arith, nat_tests, f) in
        let below : a < b = below_of a b (slice_cmp nat_cmp before t) e one in
        ap (λ o. ordering_then o (slice_cmp nat_cmp key t)) (less_at c b (omega (arith, same, below)))
    go ih true true e f l =
        let same : a ≡ b = grind (arith, nat_tests, e) in
        let too : a ≡ c = grind (arith, nat_tests, f) in
        let first : slice_cmp nat_cmp before t ≡ Less = ap (λ o. ordering_then o (slice_cmp nat_cmp before t)) (sym (same_at a b same)) ∙ one in
        let second : slice_cmp nat_cmp before key ≡ Less = ap (λ o. ordering_then o (slice_cmp nat_cmp before key)) (sym (same_at a c too)) ∙ two in
        ap (λ o. ordering_then o (slice_cmp nat_cmp key t)) (same_at c b (sym too ∙ same)) ∙ ih first second (omega (arith, l))

-- one that shares more stands below it, and shares with it what the one before does
pub below_key : (before t key : List ℕ) → slice_cmp nat_cmp before t ≡ Less → slice_cmp nat_cmp before key ≡ Less → shared before key < shared before t → (slice_cmp nat_cmp t key ≡ Less) × (shared t key ≡ shared before key)
below_key [] t key one two more = absurd (omega (arith, more))
below_key (a ∷ before) [] key one two more = absurd cc
below_key (a ∷ before) (b ∷ t) [] one two more = absurd cc
below_key (a ∷ before) (b ∷ t) (c ∷ key) one two more = go (below_key before t key) (nat_eq a b) (nat_eq a c) refl refl more
  where
    go : (slice_cmp nat_cmp before t ≡ Less → slice_cmp nat_cmp before key ≡ Less → shared before key < shared before t → (slice_cmp nat_cmp t key ≡ Less) × (shared t key ≡ shared before key)) → (p q : Bool) → nat_eq a b ≡ p → nat_eq a c ≡ q → cond q (suc (shared before key)) 0 < cond p (suc (shared before t)) 0 → (slice_cmp nat_cmp (b ∷ t) (c ∷ key) ≡ Less) × (shared (b ∷ t) (c ∷ key) ≡ cond q (suc (shared before key)) 0)
    go ih false q e f l = absurd (omega (arith, l))
    go ih true false e f l =
        let same : a ≡ b = grind (arith, nat_tests, e) in
        let below : a < c = below_of a c (slice_cmp nat_cmp before key) f two in
        let other : nat_eq b c ≡ false = grind (arith, nat_tests, same, below) in
        (ap (λ o. ordering_then o (slice_cmp nat_cmp t key)) (less_at b c (omega (arith, same, below))), ap (λ x. cond x (suc (shared t key)) 0) other)
    go ih true true e f l =
        let same : a ≡ b = grind (arith, nat_tests, e) in
        let too : a ≡ c = grind (arith, nat_tests, f) in
        let first : slice_cmp nat_cmp before t ≡ Less = ap (λ o. ordering_then o (slice_cmp nat_cmp before t)) (sym (same_at a b same)) ∙ one in
        let second : slice_cmp nat_cmp before key ≡ Less = ap (λ o. ordering_then o (slice_cmp nat_cmp before key)) (sym (same_at a c too)) ∙ two in
        let later = ih first second (omega (arith, l)) in
        let equal : nat_eq b c ≡ true = grind (arith, nat_tests, same, too) in
        (ap (λ o. ordering_then o (slice_cmp nat_cmp t key)) (same_at b c (sym same ∙ too)) ∙ later.0, ap (λ x. cond x (suc (shared t key)) 0) equal ∙ ap suc later.1)

-- two that share so much with another differ behind it alone
pub behind_shared : (m : ℕ) (before t key : List ℕ) → m ≤ shared before t → m ≤ shared before key → (shared t key ≡ m + shared (drop m t) (drop m key)) × (slice_cmp nat_cmp t key ≡ slice_cmp nat_cmp (drop m t) (drop m key))
behind_shared zero before t key one two = ((let same : shared t key ≡ 0 + shared t key = omega arith in same), refl)
behind_shared (suc m) [] t key one two = absurd (omega (arith, one))
behind_shared (suc m) (a ∷ before) [] key one two = absurd (omega (arith, one))
behind_shared (suc m) (a ∷ before) (b ∷ t) [] one two = absurd (omega (arith, two))
behind_shared (suc m) (a ∷ before) (b ∷ t) (c ∷ key) one two = go (behind_shared m before t key) (nat_eq a b) (nat_eq a c) refl refl one two
  where
    go : (m ≤ shared before t → m ≤ shared before key → (shared t key ≡ m + shared (drop m t) (drop m key)) × (slice_cmp nat_cmp t key ≡ slice_cmp nat_cmp (drop m t) (drop m key))) → (p q : Bool) → nat_eq a b ≡ p → nat_eq a c ≡ q → suc m ≤ cond p (suc (shared before t)) 0 → suc m ≤ cond q (suc (shared before key)) 0 → (shared (b ∷ t) (c ∷ key) ≡ suc m + shared (drop m t) (drop m key)) × (slice_cmp nat_cmp (b ∷ t) (c ∷ key) ≡ slice_cmp nat_cmp (drop m t) (drop m key))
    go ih false q e f k l = absurd (omega (arith, k))
    go ih true false e f k l = absurd (omega (arith, l))
    go ih true true e f k l =
        let same : a ≡ b = grind (arith, nat_tests, e) in
        let too : a ≡ c = grind (arith, nat_tests, f) in
        let later = ih (omega (arith, k)) (omega (arith, l)) in
        let equal : nat_eq b c ≡ true = grind (arith, nat_tests, same, too) in
        let number = later.0 in
        (ap (λ x. cond x (suc (shared t key)) 0) equal ∙ (let sum : suc (shared t key) ≡ suc m + shared (drop m t) (drop m key) = omega (arith, number) in sum), ap (λ o. ordering_then o (slice_cmp nat_cmp t key)) (same_at b c (sym same ∙ too)) ∙ later.1)

-- ---- terms that aren't the key

pub other_above : (key t : List ℕ) → slice_cmp nat_cmp key t ≡ Less → bytes_eq t key ≡ false
other_above key t above = sym (is_eq-slice_cmp t key) ∙ ap is_eq (nat_list_cmp_total.antisymm t key ∙ ap ordering_reverse above)

pub other_below : (key t : List ℕ) → slice_cmp nat_cmp t key ≡ Less → bytes_eq t key ≡ false
other_below key t below = sym (is_eq-slice_cmp t key) ∙ ap is_eq below

-- behind a term that is above the key, none is equal to it
located_behind : (number : ℕ) (key s : List ℕ) (p q : ℕ) (ts : List Told) → 0 < number → slice_cmp nat_cmp key s ≡ Less → Follow number s ts → located key p q ts ≡ None
located_behind number key s p q [] some above follow = refl
located_behind number key s p q (t ∷ ts) some above follow =
    let step : slice_cmp nat_cmp s t.0 ≡ Less = less_of number s t.0 (grind (arith, nat_tests, some)) follow.0 in
    let here : slice_cmp nat_cmp key t.0 ≡ Less = nat_list_cmp_total.trans key s t.0 above step in
    ap (λ b. cond b (Some (t.1, p, q)) (located key (p + t.1.postings_len) (q + t.1.positions_len) ts)) (other_above key t.0 here) ∙ located_behind (number + 1) key t.0 (p + t.1.postings_len) (q + t.1.positions_len) ts (omega arith) here follow.1

-- no term is, from one on that is above the key
pub none_located : (number : ℕ) (key before : List ℕ) (p q : ℕ) (t : Told) (ts : List Told) → slice_cmp nat_cmp key t.0 ≡ Less → Follow number before (t ∷ ts) → located key p q (t ∷ ts) ≡ None
none_located number key before p q t ts above follow = ap (λ b. cond b (Some (t.1, p, q)) (located key (p + t.1.postings_len) (q + t.1.positions_len) ts)) (other_above key t.0 above) ∙ located_behind (number + 1) key t.0 (p + t.1.postings_len) (q + t.1.positions_len) ts (omega arith) above follow.1
