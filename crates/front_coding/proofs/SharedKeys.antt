-- What keys share.
use Rattle.std.proofs.Common.{[], Bool, List, None, Some, ap, arith, cond, drop, false, get_or, length, nat_eq, nat_lt, refl, suc, sym, take, true, zero, ◌++◌, ◌<◌, ◌≡◌, ◌≢◌, ◌≤◌, ◌∙◌, ◌∷◌, ℕ}
use Rattle.std.proofs.lemmas.Bool.Decides.{nat_tests}
use Rattle.std.specs.Cmp.Lexicographic.{slice_cmp}
use Rattle.std.specs.Ordering.{nat_cmp, ordering_then}
use Rattle.std.specs.Prelude.{slice_get}
use Rattle.std.specs.declared.cmp.Ordering.TheVariants.{Greater, Less}
use Rattle.definitions.proofs.Bounds.{same_at}
use Rattle.definitions.proofs.PrefixRanges.{is_less as less_at, is_greater as more_at}
use Rattle.layouts.specs.TermSections.{shared}
use Rattle.front_coding.specs.TakenKeys.{is_above_at, is_next}

pub shared_within : (before key : List ℕ) → (shared before key ≤ length before) × (shared before key ≤ length key)
shared_within [] key = (omega arith, omega arith)
shared_within (a ∷ before) [] = (omega arith, omega arith)
shared_within (a ∷ before) (b ∷ key) = go (nat_eq a b) (shared_within before key)
  where
    go : (t : Bool) → (shared before key ≤ length before) × (shared before key ≤ length key) → (cond t (suc (shared before key)) 0 ≤ length (a ∷ before)) × (cond t (suc (shared before key)) 0 ≤ length (b ∷ key))
    go true (one, two) = (omega arith, omega arith)
    go false (one, two) = (omega arith, omega arith)

-- ---- byte by byte

pub shared_more : (n : ℕ) (before key : List ℕ) → n < length before → n < length key → get_or before n 0 ≡ get_or key n 0 → shared (drop n before) (drop n key) ≡ suc (shared (drop (suc n) before) (drop (suc n) key))
shared_more n [] key one two same = absurd (omega arith)
shared_more n (a ∷ before) [] one two same = absurd (omega arith)
shared_more zero (a ∷ before) (b ∷ key) one two same = (let e : nat_eq a b ≡ true = grind (arith, nat_tests, same) in ap (λ t. cond t (suc (shared before key)) 0) e)
shared_more (suc n) (a ∷ before) (b ∷ key) one two same = shared_more n before key (omega arith) (omega arith) same

pub shared_last : (n : ℕ) (before key : List ℕ) → n < length before → n < length key → get_or before n 0 ≢ get_or key n 0 → shared (drop n before) (drop n key) ≡ 0
shared_last n [] key one two other = absurd (omega arith)
shared_last n (a ∷ before) [] one two other = absurd (omega arith)
shared_last zero (a ∷ before) (b ∷ key) one two other = (let e : nat_eq a b ≡ false = grind (arith, nat_tests, other) in ap (λ t. cond t (suc (shared before key)) 0) e)
shared_last (suc n) (a ∷ before) (b ∷ key) one two other = shared_last n before key (omega arith) (omega arith) other

nothing_of : (xs : List ℕ) → shared xs [] ≡ 0
nothing_of [] = refl
nothing_of (x ∷ xs) = refl

pub shared_ended : (n : ℕ) (before key : List ℕ) → length before ≤ n → shared (drop n before) (drop n key) ≡ 0
shared_ended zero [] key long = refl
shared_ended (suc n) [] key long = refl
shared_ended zero (a ∷ before) key long = absurd (omega arith)
shared_ended (suc n) (a ∷ before) [] long = nothing_of (drop n before)
shared_ended (suc n) (a ∷ before) (b ∷ key) long = shared_ended n before key (omega arith)

pub shared_cut : (n : ℕ) (before key : List ℕ) → length key ≤ n → shared (drop n before) (drop n key) ≡ 0
shared_cut zero before [] long = nothing_of before
shared_cut (suc n) before [] long = nothing_of (drop (suc n) before)
shared_cut zero before (b ∷ key) long = absurd (omega arith)
shared_cut (suc n) [] (b ∷ key) long = refl
shared_cut (suc n) (a ∷ before) (b ∷ key) long = shared_cut n before key (omega arith)

-- ---- a key behind another

longer_alike : (before : List ℕ) (alike : ℕ) → nat_eq (suc alike) (length (0 ∷ before)) ≡ nat_eq alike (length before)
longer_alike before alike = go (nat_eq alike (length before)) refl
  where
    go : (t : Bool) → nat_eq alike (length before) ≡ t → nat_eq (suc alike) (suc (length before)) ≡ t
    go true e = grind (arith, nat_tests)
    go false e = grind (arith, nat_tests)

one_byte_more : (a : ℕ) (before : List ℕ) (alike first : ℕ) → is_above_at (a ∷ before) (suc alike) first ≡ is_above_at before alike first
one_byte_more a before alike first = ap (λ t. elim (slice_get before alike) [ None ↦ t | Some byte ↦ nat_lt byte first ]) (longer_alike before alike)

next_more : (a : ℕ) (before : List ℕ) (alike : ℕ) (rest : List ℕ) → is_next (a ∷ before) (suc alike) rest ≡ is_next before alike rest
next_more a before alike [] = refl
next_more a before alike (first ∷ rest) = one_byte_more a before alike first

-- a key above another: what they share, and the rest
pub next_is : (before key : List ℕ) → slice_cmp nat_cmp before key ≡ Less → is_next before (shared before key) (drop (shared before key) key) ≡ true
next_is [] [] below = absurd cc
next_is [] (b ∷ key) below = refl
next_is (a ∷ before) [] below = absurd cc
next_is (a ∷ before) (b ∷ key) below = go (nat_eq a b) refl (next_is before key)
  where
    go : (t : Bool) → nat_eq a b ≡ t → (slice_cmp nat_cmp before key ≡ Less → is_next before (shared before key) (drop (shared before key) key) ≡ true) → is_next (a ∷ before) (cond t (suc (shared before key)) 0) (drop (cond t (suc (shared before key)) 0) (b ∷ key)) ≡ true
    go true e rest =
        let same : a ≡ b = grind (arith, nat_tests) in
        let later : slice_cmp nat_cmp before key ≡ Less = ap (λ o. ordering_then o (slice_cmp nat_cmp before key)) (sym (same_at a b same)) ∙ below in
        next_more a before (shared before key) (drop (shared before key) key) ∙ rest later
    go false e rest = first (nat_lt a b) refl
      where
        first : (t : Bool) → nat_lt a b ≡ t → nat_lt a b ≡ true
        first true l = l
        first false l =
            let above : b < a = grind (arith, nat_tests) in
            let more : Greater ≡ Less = ap (λ o. ordering_then o (slice_cmp nat_cmp before key)) (sym (more_at a b above)) ∙ below in
            absurd cc

pub shared_again : (before key : List ℕ) → take (shared before key) before ++ drop (shared before key) key ≡ key
shared_again [] key = refl
shared_again (a ∷ before) [] = refl
shared_again (a ∷ before) (b ∷ key) = go (shared_again before key) (nat_eq a b) refl
  where
    go : take (shared before key) before ++ drop (shared before key) key ≡ key → (t : Bool) → nat_eq a b ≡ t → take (cond t (suc (shared before key)) 0) (a ∷ before) ++ drop (cond t (suc (shared before key)) 0) (b ∷ key) ≡ b ∷ key
    go rest true e = (let same : a ≡ b = grind (arith, nat_tests, e) in ap (λ xs. a ∷ xs) rest ∙ ap (λ x. x ∷ key) same)
    go rest false e = refl

-- so much of a key, and a rest that stands behind it
pub record IsAbove (before : List ℕ) (alike : ℕ) (rest : List ℕ) : Type 0 where
  pub above : slice_cmp nat_cmp before (take alike before ++ rest) ≡ Less
  pub shares : shared before (take alike before ++ rest) ≡ alike
  pub leaves : drop alike (take alike before ++ rest) ≡ rest

pub above_from : (before : List ℕ) (alike : ℕ) (rest : List ℕ) → is_next before alike rest ≡ true → IsAbove before alike rest
above_from before alike [] next = absurd cc
above_from [] zero (f ∷ rest) next = record { above = refl; shares = refl; leaves = refl }
above_from [] (suc alike) (f ∷ rest) next = absurd (grind (arith, nat_tests, next))
above_from (a ∷ before) zero (f ∷ rest) next =
    let below : a < f = grind (arith, nat_tests, next) in
    let other : nat_eq a f ≡ false = grind (arith, nat_tests) in
    record {
      above = ap (λ o. ordering_then o (slice_cmp nat_cmp before rest)) (less_at a f below);
      shares = ap (λ t. cond t (suc (shared before rest)) 0) other;
      leaves = refl;
    }
above_from (a ∷ before) (suc alike) (f ∷ rest) next =
    let later = above_from before alike (f ∷ rest) (sym (next_more a before alike (f ∷ rest)) ∙ next) in
    let key = take alike before ++ (f ∷ rest) in
    let same : nat_eq a a ≡ true = grind (arith, nat_tests) in
    record {
      above = ap (λ o. ordering_then o (slice_cmp nat_cmp before key)) (same_at a a refl) ∙ later.above;
      shares = ap (λ t. cond t (suc (shared before key)) 0) same ∙ ap suc later.shares;
      leaves = later.leaves;
    }
