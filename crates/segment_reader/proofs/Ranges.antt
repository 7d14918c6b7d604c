-- The terms between two keys stand together.
use Rattle.std.proofs.Common.{[], Bool, List, None, Option, Some, ap, arith, cond, drop, false, filter, length, map, max, not, refl, suc, sym, take, true, true≢false, ◌&&◌, ◌+◌, ◌-◌, ◌≡◌, ◌∙◌, ◌∷◌, ℕ}
use Rattle.std.specs.Bool.{⊤}
use Rattle.std.specs.List.{AllByRecursion, prefix_len}
use Rattle.layouts.specs.TermSections.{TermsAscend}
use Rattle.segment_reader.proofs.Ordered.{behind, below_before}
use Rattle.segment_reader.specs.Dictionaries.{Placed}
use Rattle.segment_reader.specs.Searching.{between, is_before, is_below}

-- where a test fails, it fails of all behind
abbrev pub Once : {X : Type 0} → (X → Bool) → List X → Type 0
Once p [] = ⊤
Once p (x ∷ xs) = (p x ≡ false → AllByRecursion (λ y. p y ≡ false) xs) × Once p xs

none_first : {X : Type 0} (p : X → Bool) (xs : List X) → AllByRecursion (λ y. p y ≡ false) xs → prefix_len p xs ≡ 0
none_first p [] all = refl
none_first p (x ∷ xs) all = ap (λ b. cond b (1 + prefix_len p xs) 0) all.0

none_kept : {X : Type 0} (p q : X → Bool) (xs : List X) → AllByRecursion (λ y. q y ≡ false) xs → filter (λ x. not (p x) && q x) xs ≡ []
none_kept p q [] all = refl
none_kept {X} p q (x ∷ xs) all = ap (λ b. cond (not (p x) && b) (x ∷ filter (λ y. not (p y) && q y) xs) (filter (λ y. not (p y) && q y) xs)) all.0 ∙ go (p x) ∙ none_kept p q xs all.1
  where
    go : (b : Bool) → cond (not b && false) (x ∷ filter (λ y. not (p y) && q y) xs) (filter (λ y. not (p y) && q y) xs) ≡ filter (λ y. not (p y) && q y) xs
    go true = refl
    go false = refl

pub between_is : {X : Type 0} (p q : X → Bool) (xs : List X) → Once p xs → Once q xs → filter (λ x. not (p x) && q x) xs ≡ take (max (prefix_len q xs) (prefix_len p xs) - prefix_len p xs) (drop (prefix_len p xs) xs)
between_is p q [] a b = refl
between_is {X} p q (x ∷ xs) a b = go (p x) (q x) refl refl (between_is p q xs a.1 b.1)
  where
    n : ℕ
    n = prefix_len p xs

    m : ℕ
    m = prefix_len q xs

    rest : List X
    rest = filter (λ y. not (p y) && q y) xs

    go : (s t : Bool) → p x ≡ s → q x ≡ t → rest ≡ take (max m n - n) (drop n xs) → cond (not s && t) (x ∷ rest) rest ≡ take (max (cond t (1 + m) 0) (cond s (1 + n) 0) - cond s (1 + n) 0) (drop (cond s (1 + n) 0) (x ∷ xs))
    go true true before within later = later ∙ (let same : max m n - n ≡ max (1 + m) (1 + n) - (1 + n) = omega arith in ap (λ k. take k (drop n xs)) same) ∙ (let next : suc n ≡ 1 + n = omega arith in ap (λ k. take (max (1 + m) (1 + n) - (1 + n)) (drop k (x ∷ xs))) next)
    go true false before within later = none_kept p q xs (b.0 within) ∙ (let none : 0 ≡ max 0 (1 + n) - (1 + n) = omega arith in ap (λ k. take k (drop (1 + n) (x ∷ xs))) none)
    go false true before within later =
        let first : n ≡ 0 = none_first p xs (a.0 before) in
        let here : suc (max m n - n) ≡ max (1 + m) 0 - 0 = omega (arith, first) in
        ap (λ ys. x ∷ ys) (later ∙ ap (λ k. take (max m n - n) (drop k xs)) first) ∙ ap (λ k. take k (x ∷ xs)) here
    go false false before within later = none_kept p q xs (b.0 within)

pub once_true : {X : Type 0} (xs : List X) → Once (λ x. true) xs
once_true [] = tt
once_true (x ∷ xs) = ((λ never. absurd (true≢false never)), once_true xs)

pub all_true : {X : Type 0} (xs : List X) → prefix_len (λ x. true) xs ≡ length xs
all_true [] = refl
all_true (x ∷ xs) = (let rest = all_true xs in omega (arith, rest))

-- ---- keys

none_below : {Y : Type 0} (key s : List ℕ) (ts : List (List ℕ × Y)) → TermsAscend (s ∷ map (λ (t : List ℕ × Y). t.0) ts) → is_below key s ≡ false → AllByRecursion (λ (t : List ℕ × Y). is_below key t.0 ≡ false) ts
none_below key s [] a past = tt
none_below key s (t ∷ ts) a past = (here (is_below key t.0) refl, none_below key t.0 ts a.1 (here (is_below key t.0) refl))
  where
    here : (b : Bool) → is_below key t.0 ≡ b → is_below key t.0 ≡ false
    here true is = absurd (true≢false (sym (below_before key (s ∷ t.0 ∷ []) 0 1 [] (a.0, tt) (omega arith) (omega arith) is) ∙ past))
    here false is = is

pub once_below : {Y : Type 0} (key : List ℕ) (ts : List (List ℕ × Y)) → TermsAscend (map (λ (t : List ℕ × Y). t.0) ts) → Once (λ (t : List ℕ × Y). is_below key t.0) ts
once_below key [] a = tt
once_below key (t ∷ ts) a = ((λ past. none_below key t.0 ts a past), once_below key ts (behind t.0 (map (λ (u : List ℕ × _). u.0) ts) a))

pub once_before : {Y : Type 0} (end : Option (List ℕ)) (ts : List (List ℕ × Y)) → TermsAscend (map (λ (t : List ℕ × Y). t.0) ts) → Once (λ (t : List ℕ × Y). is_before end t.0) ts
once_before None ts a = once_true ts
once_before (Some key) ts a = once_below key ts a

-- the terms of a range are those between its keys
pub range_found : (terms : List Placed) (start : List ℕ) (end : Option (List ℕ)) (n m last : ℕ) → TermsAscend (map (λ (t : Placed). t.0) terms) → n ≡ prefix_len (λ (t : Placed). is_below start t.0) terms → m ≡ prefix_len (λ (t : Placed). is_before end t.0) terms → last ≡ max m n → take (last - n) (drop n terms) ≡ between start end terms
range_found terms start end n m last known first second is =
    let whole = between_is (λ (t : Placed). is_below start t.0) (λ (t : Placed). is_before end t.0) terms (once_below start terms known) (once_before end terms known) in
    let long : last - n ≡ max (prefix_len (λ (t : Placed). is_before end t.0) terms) (prefix_len (λ (t : Placed). is_below start t.0) terms) - prefix_len (λ (t : Placed). is_below start t.0) terms = ap (λ k. k - n) is ∙ ap (λ k. max k n - n) second ∙ ap (λ k. max (prefix_len (λ (t : Placed). is_before end t.0) terms) k - k) first in
    ap (λ k. take (last - n) (drop k terms)) first ∙ ap (λ k. take k (drop (prefix_len (λ (t : Placed). is_below start t.0) terms) terms)) long ∙ sym whole
