-- A list that is sorted is its numbers in ascending order.
use Rattle.std.proofs.Common.{[], ◌+◌, ◌<◌, ◌≡◌, ◌≤◌, ◌∙◌, ◌∷◌, Bool, List, add-one, ap, ap₂, arith, cond, false, get_or, length, nat_eq, nat_le, nat_lt, refl, suc, sum_by, sym, true, ℕ}
use Rattle.std.specs.List.Sorted.{IsPermutation, IsSorted}
use Rattle.std.specs.Ordering.{is_lt, nat_cmp}
use Rattle.std.proofs.lemmas.Bool.Decides.{nat_tests}
use Rattle.std.proofs.lemmas.List.Sorted.{sum_by-IsPermutation}
use Rattle.std.proofs.lemmas.List.Sums.{sum_by-cons}
use Rattle.definitions.proofs.BlockBounds.{tail_dont_fall as rest_rises}
use Rattle.definitions.specs.Recorded.{ascending, insert_ascending}
use Rattle.definitions.specs.Scoring.{DontFall}

abbrev counted : Bool → ℕ
counted true = 1
counted false = 0

-- how often a number stands in a list
abbrev times : ℕ → List ℕ → ℕ
times n [] = 0
times n (x ∷ xs) = counted (nat_eq x n) + times n xs

times_one : (n : ℕ) → counted (nat_eq n n) ≡ 1
times_one n = (let e : nat_eq n n ≡ true = grind (arith, nat_tests) in ap counted e)

times_sum : (n : ℕ) (xs : List ℕ) → times n xs ≡ sum_by (λ x. counted (nat_eq x n)) xs
times_sum n [] = refl
times_sum n (x ∷ xs) = ap (λ k. counted (nat_eq x n) + k) (times_sum n xs) ∙ sym (sum_by-cons (λ x. counted (nat_eq x n)) x xs)

not_here : (y x : ℕ) → (y ≤ x → ⊥) → counted (nat_eq y x) ≡ 0
not_here y x above = go (nat_eq y x) refl
  where
    go : (b : Bool) → nat_eq y x ≡ b → counted b ≡ 0
    go true e = (let same : y ≡ x = grind (arith, nat_tests) in absurd (above (omega arith)))
    go false e = refl

-- no number is below the first
none_below : (y : ℕ) (ys : List ℕ) (x : ℕ) → DontFall (y ∷ ys) → x < y → times x (y ∷ ys) ≡ 0
none_below y [] x rising below = (let here = not_here y x (λ le. absurd (omega arith)) in omega arith)
none_below y (z ∷ zs) x rising below =
    let here = not_here y x (λ le. absurd (omega arith)) in
    let first = rising.0 in
    let later = none_below z zs x rising.1 (omega arith) in
    omega arith

-- lists that don't fall with the same numbers are one
one_order : (xs ys : List ℕ) → DontFall xs → DontFall ys → ((n : ℕ) → times n xs ≡ times n ys) → xs ≡ ys
one_order [] [] up also same = refl
one_order [] (y ∷ ys) up also same = (let e = same y in let one = times_one y in absurd (omega arith))
one_order (x ∷ xs) [] up also same = (let e = same x in let one = times_one x in absurd (omega arith))
one_order (x ∷ xs) (y ∷ ys) up also same =
    let here : x ≡ y = equal (λ below. none_below x xs y up below) (λ below. none_below y ys x also below) in
    let later : (n : ℕ) → times n xs ≡ times n ys = λ n. (let e = same n in let one : counted (nat_eq x n) ≡ counted (nat_eq y n) = ap (λ m. counted (nat_eq m n)) here in omega arith) in
    ap₂ (λ z zs. z ∷ zs) here (one_order xs ys (rest_rises x xs up) (rest_rises y ys also) later)
  where
    equal : (y < x → times y (x ∷ xs) ≡ 0) → (x < y → times x (y ∷ ys) ≡ 0) → x ≡ y
    equal first second = go (nat_lt y x) refl (nat_lt x y) refl
      where
        go : (b : Bool) → nat_lt y x ≡ b → (c : Bool) → nat_lt x y ≡ c → x ≡ y
        go true e c d = (let below : y < x = grind (arith, nat_tests) in let f = first below in let s = same y in let one = times_one y in absurd (omega arith))
        go false e true d = (let below : x < y = grind (arith, nat_tests) in let f = second below in let s = same x in let one = times_one x in absurd (omega arith))
        go false e false d = grind (arith, nat_tests)

times_insert : (n m : ℕ) (ns : List ℕ) → times n (insert_ascending m ns) ≡ counted (nat_eq m n) + times n ns
times_insert n m [] = refl
times_insert n m (k ∷ ks) = go (nat_le m k) (times_insert n m ks)
  where
    go : (b : Bool) → times n (insert_ascending m ks) ≡ counted (nat_eq m n) + times n ks → times n (cond b (m ∷ k ∷ ks) (k ∷ insert_ascending m ks)) ≡ counted (nat_eq m n) + times n (k ∷ ks)
    go true later = refl
    go false later = omega arith

times_ascending : (n : ℕ) (ns : List ℕ) → times n (ascending ns) ≡ times n ns
times_ascending n [] = refl
times_ascending n (m ∷ ns) = times_insert n m (ascending ns) ∙ ap (λ k. counted (nat_eq m n) + k) (times_ascending n ns)

insert_rises : (m : ℕ) (ns : List ℕ) → DontFall ns → DontFall (insert_ascending m ns)
insert_rises m [] up = tt
insert_rises m (k ∷ []) up = go (nat_le m k) refl
  where
    go : (b : Bool) → nat_le m k ≡ b → DontFall (cond b (m ∷ k ∷ []) (k ∷ m ∷ []))
    go true e = (let h : m ≤ k = grind (arith, nat_tests) in h, tt)
    go false e = (let h : k ≤ m = grind (arith, nat_tests) in h, tt)
insert_rises m (k ∷ j ∷ ks) up = go (nat_le m k) refl (nat_le m j) (insert_rises m (j ∷ ks) up.1)
  where
    go : (b : Bool) → nat_le m k ≡ b → (d : Bool) → DontFall (cond d (m ∷ j ∷ ks) (j ∷ insert_ascending m ks)) → DontFall (cond b (m ∷ k ∷ j ∷ ks) (k ∷ cond d (m ∷ j ∷ ks) (j ∷ insert_ascending m ks)))
    go true e d later = (let h : m ≤ k = grind (arith, nat_tests) in h, up)
    go false e true later = (let h : k ≤ m = grind (arith, nat_tests) in h, later)
    go false e false later = (up.0, later)

pub ascending_rises : (ns : List ℕ) → DontFall (ascending ns)
ascending_rises [] = tt
ascending_rises (n ∷ ns) = insert_rises n (ascending ns) (ascending_rises ns)

-- numbers in ascending order are the same numbers
pub sorted_is_ascending : (xs ys : List ℕ) → IsPermutation xs ys → DontFall ys → ys ≡ ascending xs
sorted_is_ascending xs ys moved up = one_order ys (ascending xs) up (ascending_rises xs) (λ n. times_sum n ys ∙ sum_by-IsPermutation (λ x. counted (nat_eq x n)) xs ys moved ∙ sym (times_sum n xs) ∙ sym (times_ascending n xs))

dont_fall : (xs : List ℕ) → ((k : ℕ) → suc k < length xs → get_or xs k 0 ≤ get_or xs (suc k) 0) → DontFall xs
dont_fall [] up = tt
dont_fall (x ∷ []) up = tt
dont_fall (x ∷ y ∷ ys) up = (up 0 (omega arith), dont_fall (y ∷ ys) (λ k inside. up (suc k) (omega arith)))

-- what a sort gives doesn't fall
pub sorted_rises : (xs : List ℕ) → IsSorted nat_cmp xs → DontFall xs
sorted_rises xs sorted = dont_fall xs (λ k inside. adjacent k (sorted k 0 (omega arith) (omega arith)))
  where
    adjacent : (k : ℕ) → is_lt (nat_cmp (get_or xs (k + 1) 0) (get_or xs k 0)) ≡ false → get_or xs k 0 ≤ get_or xs (suc k) 0
    adjacent k e = (let h : get_or xs k 0 ≤ get_or xs (k + 1) 0 = grind (arith, nat_tests) in rw (sym (add-one k)) h)
