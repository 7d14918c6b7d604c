-- Laws of positions that two terms share.
use Rattle.std.proofs.Common.{[], ◌++◌, ◌+◌, ◌<◌, ◌==◌, ◌||◌, ◌∙◌, ◌∷◌, ◌≡◌, ◌≢◌, ◌≤◌, Bool, List, ap, arith, drop, false, filter, get_or, if◌then◌else◌, le-leb, length, nat_le, nat_lt, refl, set, subst, sym, take, true, ℕ}
use mir.Val.{bool_byte as from_bool}
use Rattle.std.proofs.lemmas.Bool.{lt-leb, true≢false}
use Rattle.std.proofs.lemmas.Bool.Decides.{nat_tests}
use Rattle.std.proofs.lemmas.List.{append_assoc, drop-set-lt, drop_all, drop_more, set-get_or, take-set, take_more_set}
use Rattle.phrases.specs.Places.{Ascends, distinct, has}
use Rattle.phrases.specs.MergeLaws.{IsStep}

-- ---- orders
pub Ascends-lower : (low high : ℕ) (ps : List ℕ) → low ≤ high → Ascends high ps → Ascends low ps
Ascends-lower low high [] l a = tt
Ascends-lower low high (p ∷ ps) l a = (omega (arith, l, a.0), a.1)

-- what is left of ascending positions, one step on
pub Ascends-step : (low i : ℕ) (ps : List ℕ) → i < length ps → Ascends low (drop i ps) → (low ≤ get_or ps i 0) × Ascends (get_or ps i 0) (drop (i + 1) ps)
Ascends-step low i ps l a = let split : Ascends low (get_or ps i 0 ∷ drop (i + 1) ps) = subst (Ascends low) (drop_more ps i 0 l) a in (split.0, split.1)

-- ---- distinct positions

-- a position that isn't below the next is copied
pub distinct-in : (next i : ℕ) (ps : List ℕ) → i < length ps → next ≤ get_or ps i 0 → distinct next (drop i ps) ≡ get_or ps i 0 ∷ distinct (get_or ps i 0 + 1) (drop (i + 1) ps)
distinct-in next i ps l in_place =
    ap (distinct next) (drop_more ps i 0 l)
    ∙ ap (λ b. if b then get_or ps i 0 ∷ distinct (get_or ps i 0 + 1) (drop (i + 1) ps) else distinct next (drop (i + 1) ps)) (le-leb next (get_or ps i 0) in_place)

-- one that is below is not
pub distinct-out : (next i : ℕ) (ps : List ℕ) → i < length ps → get_or ps i 0 < next → distinct next (drop i ps) ≡ distinct next (drop (i + 1) ps)
distinct-out next i ps l out =
    ap (distinct next) (drop_more ps i 0 l)
    ∙ ap (λ b. if b then get_or ps i 0 ∷ distinct (get_or ps i 0 + 1) (drop (i + 1) ps) else distinct next (drop (i + 1) ps)) (lt-leb next (get_or ps i 0) out)

-- ---- what is shared

-- ascending positions haven't one below them
pub has-low : (low p : ℕ) (ps : List ℕ) → Ascends low ps → p < low → has ps p ≡ false
has-low low p [] a l = refl
has-low low p (q ∷ qs) a l =
    let rest = has-low q p qs a.1 (omega (arith, a.0, l)) in
    let apart : (q == p) ≡ false = grind (arith, nat_tests, a.0, l) in
    ap (λ b. b || has qs p) apart ∙ rest

-- tests that agree on what ascends keep alike
pub filter-ascending : (f g : ℕ → Bool) (low : ℕ) (xs : List ℕ) → Ascends low xs → ((x : ℕ) → low ≤ x → f x ≡ g x) → filter f xs ≡ filter g xs
filter-ascending f g low [] a same = refl
filter-ascending f g low (x ∷ xs) a same =
    ap (λ b. if b then x ∷ filter f xs else filter f xs) (same x a.0)
    ∙ ap (λ ys. if g x then x ∷ ys else ys) (filter-ascending f g x xs a.1 (λ y l. same y (omega (arith, l, a.0))))

-- a position that is kept, and one that isn't
filter-in : (f : ℕ → Bool) (x : ℕ) (xs : List ℕ) → f x ≡ true → filter f (x ∷ xs) ≡ x ∷ filter f xs
filter-in f x xs e = ap (λ b. if b then x ∷ filter f xs else filter f xs) e

filter-out : (f : ℕ → Bool) (x : ℕ) (xs : List ℕ) → f x ≡ false → filter f (x ∷ xs) ≡ filter f xs
filter-out f x xs e = ap (λ b. if b then x ∷ filter f xs else filter f xs) e

filter-none : (xs : List ℕ) → filter (has []) xs ≡ []
filter-none [] = refl
filter-none (x ∷ xs) = filter-none xs

-- ---- what is kept of ascending positions
pub Ascends-filter : (f : ℕ → Bool) (low : ℕ) (ps : List ℕ) → Ascends low ps → Ascends low (filter f ps)
Ascends-filter f low [] a = tt
Ascends-filter f low (p ∷ ps) a = (let rest = Ascends-filter f p ps a.1 in elim (f p) as (λ b. Ascends low (if b then p ∷ filter f ps else filter f ps)) [ true ↦ (a.0, rest) | false ↦ Ascends-lower low p (filter f ps) a.0 rest ])

-- behind one that isn't kept all that is kept is above it
Ascends-filter-out : (f : ℕ → Bool) (p : ℕ) (ps : List ℕ) → f p ≡ false → Ascends p ps → Ascends (p + 1) (filter f ps)
Ascends-filter-out f p [] out a = tt
Ascends-filter-out f p (q ∷ qs) out a =
    (elim (f q) as (λ b. f q ≡ b → Ascends (p + 1) (if b then q ∷ filter f qs else filter f qs)) [
      | true ↦ (λ e. (let apart : p ≢ q = (λ same. true≢false (sym e ∙ (ap f (sym same) ∙ out))) in omega (arith, a.0, apart), Ascends-filter f q qs a.1))
      | false ↦ (λ e. Ascends-lower (p + 1) (q + 1) (filter f qs) (omega (arith, a.0)) (Ascends-filter-out f q qs e a.1))
    ]) refl

-- a bound that none is below doesn't matter
distinct-low : (next further low : ℕ) (ps : List ℕ) → Ascends low ps → next ≤ low → further ≤ low → distinct next ps ≡ distinct further ps
distinct-low next further low [] a l m = refl
distinct-low next further low (p ∷ ps) a l m =
    ap (λ b. if b then p ∷ distinct (p + 1) ps else distinct next ps) (le-leb next p (omega (arith, l, a.0)))
    ∙ sym (ap (λ b. if b then p ∷ distinct (p + 1) ps else distinct further ps) (le-leb further p (omega (arith, m, a.0))))

-- it doesn't matter whether each is taken once before or after others are taken out
pub distinct-filter : (f : ℕ → Bool) (next low : ℕ) (ps : List ℕ) → Ascends low ps → distinct next (filter f ps) ≡ filter f (distinct next ps)
distinct-filter f next low [] a = refl
distinct-filter f next low (p ∷ ps) a =
    let further = distinct-filter f (p + 1) p ps a.1 in
    let rest = distinct-filter f next p ps a.1 in
    (elim (nat_le next p) as (λ b. nat_le next p ≡ b → distinct next (filter f (p ∷ ps)) ≡ filter f (if b then p ∷ distinct (p + 1) ps else distinct next ps)) [
      | true ↦ (λ e. (elim (f p) as (λ k. f p ≡ k → distinct next (if k then p ∷ filter f ps else filter f ps) ≡ (if k then p ∷ filter f (distinct (p + 1) ps) else filter f (distinct (p + 1) ps))) [
        | true ↦ (λ k. ap (λ b. if b then p ∷ distinct (p + 1) (filter f ps) else distinct next (filter f ps)) e ∙ ap (λ xs. p ∷ xs) further)
        | false ↦ (λ k. distinct-low next (p + 1) (p + 1) (filter f ps) (Ascends-filter-out f p ps k a.1) (grind (arith, nat_tests, e)) (omega arith) ∙ further)
      ]) refl)
      | false ↦ (λ e. elim (f p) as (λ k. distinct next (if k then p ∷ filter f ps else filter f ps) ≡ filter f (distinct next ps)) [
        | true ↦ ap (λ b. if b then p ∷ distinct (p + 1) (filter f ps) else distinct next (filter f ps)) e ∙ rest
        | false ↦ rest
      ])
    ]) refl

-- ---- a merge, step by step: l and r are the first positions left

-- a left position before all right ones goes
pub merge-left : (i j : ℕ) (left right : List ℕ) → i < length left → j < length right → Ascends 0 (drop j right) → get_or left i 0 < get_or right j 0 → filter (has (drop j right)) (drop i left) ≡ filter (has (drop j right)) (drop (i + 1) left)
merge-left i j left right li lj a l =
    let rises : Ascends (get_or right j 0) (get_or right j 0 ∷ drop (j + 1) right) = (omega arith, (Ascends-step 0 j right lj a).1) in
    ap (filter (has (drop j right))) (drop_more left i 0 li)
    ∙ filter-out (has (drop j right)) (get_or left i 0) (drop (i + 1) left) (has-low (get_or right j 0) (get_or left i 0) (drop j right) (subst (Ascends (get_or right j 0)) (sym (drop_more right j 0 lj)) rises) l)

-- a right position before all left ones is passed
pub merge-right : (i j : ℕ) (left right : List ℕ) → i < length left → j < length right → Ascends 0 (drop i left) → get_or right j 0 < get_or left i 0 → filter (has (drop j right)) (drop i left) ≡ filter (has (drop (j + 1) right)) (drop i left)
merge-right i j left right li lj a l =
    let ascends : Ascends (get_or left i 0) (get_or left i 0 ∷ drop (i + 1) left) = (omega arith, (Ascends-step 0 i left li a).1) in
    ap (λ ps. filter (has ps) (drop i left)) (drop_more right j 0 lj)
    ∙ filter-ascending (has (get_or right j 0 ∷ drop (j + 1) right)) (has (drop (j + 1) right)) (get_or left i 0) (drop i left) (subst (Ascends (get_or left i 0)) (sym (drop_more left i 0 li)) ascends)
    (λ x b. let apart : (get_or right j 0 == x) ≡ false = grind (arith, nat_tests, l, b) in ap (λ t. t || has (drop (j + 1) right) x) apart)

-- a shared one stays
pub merge-both : (i j : ℕ) (left right : List ℕ) → i < length left → j < length right → get_or left i 0 ≡ get_or right j 0 → filter (has (drop j right)) (drop i left) ≡ get_or left i 0 ∷ filter (has (drop j right)) (drop (i + 1) left)
merge-both i j left right li lj e =
    let here : (get_or right j 0 == get_or left i 0) ≡ true = grind (arith, nat_tests, e) in
    ap (filter (has (drop j right))) (drop_more left i 0 li)
    ∙ filter-in (has (drop j right)) (get_or left i 0) (drop (i + 1) left) (ap (λ ps. has ps (get_or left i 0)) (drop_more right j 0 lj) ∙ ap (λ b. b || has (drop (j + 1) right) (get_or left i 0)) here)

-- at an end nothing is left to keep
pub merge-end : (i j : ℕ) (left right : List ℕ) → length left ≤ i → filter (has (drop j right)) (drop i left) ≡ []
merge-end i j left right l = ap (filter (has (drop j right))) (drop_all i left l)

pub merge-over : (i j : ℕ) (left right : List ℕ) → length right ≤ j → filter (has (drop j right)) (drop i left) ≡ []
merge-over i j left right l = ap (λ ps. filter (has ps) (drop i left)) (drop_all j right l) ∙ filter-none (drop i left)

-- ---- a merge, one step for all
pub by_order : (t d : ℕ) (P : Type 0) → (t < d → P) → (t ≡ d → P) → (d < t → P) → P
by_order t d P less same more =
    elim (nat_le t d) as (λ b. nat_le t d ≡ b → P) [
      | true ↦ (λ e. elim (nat_le d t) as (λ b. nat_le d t ≡ b → P) [ true ↦ (λ f. same (grind (arith, nat_tests, e, f))) | false ↦ (λ f. less (grind (arith, nat_tests, f))) ] refl)
      | false ↦ (λ e. more (grind (arith, nat_tests, e)))
    ] refl

-- a position that is written in front of what is left
pub written : (i n : ℕ) (left : List ℕ) → n ≤ i → drop i (set left n (get_or left i 0)) ≡ drop i left
written i n left before = by_order n i (drop i (set left n (get_or left i 0)) ≡ drop i left)
    (λ less. drop-set-lt i left n (get_or left i 0) less)
    (λ same. ap (λ m. drop i (set left m (get_or left i 0))) same ∙ ap (drop i) (set-get_or left i 0))
    (λ more. absurd (omega (arith, before, more)))

-- what is kept and what is left to keep are the same after a step
pub merge-step : (i j n kept passed skipped : ℕ) (left right : List ℕ) → i < length left → j < length right → n ≤ i → Ascends 0 (drop i left) → Ascends 0 (drop j right) → IsStep (get_or left i 0) (get_or right j 0) kept passed skipped → take (n + kept) (set left n (get_or left i 0)) ++ filter (has (drop (j + skipped) right)) (drop (i + passed) (set left n (get_or left i 0))) ≡ take n left ++ filter (has (drop j right)) (drop i left)
merge-step i j n kept passed skipped left right li lj before left_ascends ascends step =
    let l : ℕ = get_or left i 0 in
    let ys : List ℕ = set left n l in
    let front : take n ys ≡ take n left = take-set left n l in
    let same : drop i ys ≡ drop i left = written i n left before in
    let rest : drop (i + 1) ys ≡ drop (i + 1) left = drop-set-lt (i + 1) left n l (omega (arith, before)) in
    let all : ℕ → ℕ → ℕ → List ℕ = λ a b c. take (n + a) ys ++ filter (has (drop (j + c) right)) (drop (i + b) ys) in
    by_order l (get_or right j 0) (all kept passed skipped ≡ take n left ++ filter (has (drop j right)) (drop i left))
    (λ less. (let s = step.less less in
    let count : n + kept ≡ n = omega (arith, s.0) in
    let left_on : i + passed ≡ i + 1 = omega (arith, s.1) in
    let right_on : j + skipped ≡ j = omega (arith, s.2) in
    ap (λ m. take m ys ++ filter (has (drop (j + skipped) right)) (drop (i + passed) ys)) count
    ∙ (ap (λ m. take n ys ++ filter (has (drop m right)) (drop (i + passed) ys)) right_on
    ∙ (ap (λ m. take n ys ++ filter (has (drop j right)) (drop m ys)) left_on
    ∙ (ap (λ xs. xs ++ filter (has (drop j right)) (drop (i + 1) ys)) front
    ∙ (ap (λ xs. take n left ++ filter (has (drop j right)) xs) rest
    ∙ ap (λ xs. take n left ++ xs) (sym (merge-left i j left right li lj ascends less))))))))
    (λ both. (let s = step.same both in
    let count : n + kept ≡ n + 1 = omega (arith, s.0) in
    let left_on : i + passed ≡ i + 1 = omega (arith, s.1) in
    let right_on : j + skipped ≡ j = omega (arith, s.2) in
    ap (λ m. take m ys ++ filter (has (drop (j + skipped) right)) (drop (i + passed) ys)) count
    ∙ (ap (λ m. take (n + 1) ys ++ filter (has (drop m right)) (drop (i + passed) ys)) right_on
    ∙ (ap (λ m. take (n + 1) ys ++ filter (has (drop j right)) (drop m ys)) left_on
    ∙ (ap (λ xs. xs ++ filter (has (drop j right)) (drop (i + 1) ys)) (take_more_set left n l (omega (arith, before, li)))
    ∙ (ap (λ xs. (take n left ++ l ∷ []) ++ filter (has (drop j right)) xs) rest
    ∙ (append_assoc (take n left) (l ∷ []) (filter (has (drop j right)) (drop (i + 1) left))
    ∙ ap (λ xs. take n left ++ xs) (sym (merge-both i j left right li lj both)))))))))
    (λ more. (let s = step.more more in
    let count : n + kept ≡ n = omega (arith, s.0) in
    let left_on : i + passed ≡ i = omega (arith, s.1) in
    let right_on : j + skipped ≡ j + 1 = omega (arith, s.2) in
    ap (λ m. take m ys ++ filter (has (drop (j + skipped) right)) (drop (i + passed) ys)) count
    ∙ (ap (λ m. take n ys ++ filter (has (drop m right)) (drop (i + passed) ys)) right_on
    ∙ (ap (λ m. take n ys ++ filter (has (drop (j + 1) right)) (drop m ys)) left_on
    ∙ (ap (λ xs. xs ++ filter (has (drop (j + 1) right)) (drop i ys)) front
    ∙ (ap (λ xs. take n left ++ filter (has (drop (j + 1) right)) xs) same
    ∙ ap (λ xs. take n left ++ xs) (sym (merge-right i j left right li lj left_ascends more))))))))

-- what is left after a step of one or none
pub Ascends-past : (i n : ℕ) (ps : List ℕ) → i < length ps → n ≤ 1 → Ascends 0 (drop i ps) → Ascends 0 (drop (i + n) ps)
Ascends-past i n ps l few a = by_order n 1 (Ascends 0 (drop (i + n) ps))
    (λ less. (let e : i ≡ i + n = omega (arith, less) in subst (λ m. Ascends 0 (drop m ps)) e a))
    (λ same. (let e : i + 1 ≡ i + n = omega (arith, same) in subst (λ m. Ascends 0 (drop m ps)) e (Ascends-lower 0 (get_or ps i 0) (drop (i + 1) ps) (omega arith) (Ascends-step 0 i ps l a).1)))
    (λ more. absurd (omega (arith, few, more)))

-- the tests of two positions say how far a step goes
pub step-by-tests : (l r kept passed skipped : ℕ) → kept ≡ from_bool (l == r) → passed ≡ from_bool (nat_le l r) → skipped ≡ from_bool (nat_lt r l) → IsStep l r kept passed skipped
step-by-tests l r kept passed skipped k p s = record {
  less = λ less. (k ∙ ap from_bool (let e : (l == r) ≡ false = grind (arith, nat_tests, less) in e), p ∙ ap from_bool (let e : nat_le l r ≡ true = grind (arith, nat_tests, less) in e), s ∙ ap from_bool (let e : nat_lt r l ≡ false = grind (arith, nat_tests, less) in e));
  same = λ same. (k ∙ ap from_bool (let e : (l == r) ≡ true = grind (arith, nat_tests, same) in e), p ∙ ap from_bool (let e : nat_le l r ≡ true = grind (arith, nat_tests, same) in e), s ∙ ap from_bool (let e : nat_lt r l ≡ false = grind (arith, nat_tests, same) in e));
  more = λ more. (k ∙ ap from_bool (let e : (l == r) ≡ false = grind (arith, nat_tests, more) in e), p ∙ ap from_bool (let e : nat_le l r ≡ false = grind (arith, nat_tests, more) in e), s ∙ ap from_bool (let e : nat_lt r l ≡ true = grind (arith, nat_tests, more) in e));
}

-- a step goes no further than one on
pub step-few : (l r kept passed skipped : ℕ) → IsStep l r kept passed skipped → (kept ≤ passed) × (passed ≤ 1) × (skipped ≤ 1) × (passed + skipped ≡ 1)
step-few l r kept passed skipped step = by_order l r ((kept ≤ passed) × (passed ≤ 1) × (skipped ≤ 1) × (passed + skipped ≡ 1))
    (λ less. (let s = step.less less in (omega (arith, s.0, s.1), omega (arith, s.1), omega (arith, s.2), omega (arith, s.1, s.2))))
    (λ same. (let s = step.same same in (omega (arith, s.0, s.1), omega (arith, s.1), omega (arith, s.2), omega (arith, s.1, s.2))))
    (λ more. (let s = step.more more in (omega (arith, s.0, s.1), omega (arith, s.1), omega (arith, s.2), omega (arith, s.1, s.2))))
