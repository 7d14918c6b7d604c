-- The best of lists, one behind the other, from the best of each.
use Rattle.std.proofs.Common.{[], Bool, List, Option, ap, arith, cond, false, count_by, filter_map, flat_map, if◌then◌else◌, leb-false, leb-true, map, nat_le, refl, suc, sum, sym, take, true, zero, ◌++◌, ◌+◌, ◌∙◌, ◌∷◌, ◌≡◌, ◌≤◌, ℕ}
use Rattle.std.proofs.lemmas.List.{take-take}
use Rattle.std.proofs.lemmas.List.Elements.{filter_map-append}
use Rattle.std.proofs.lemmas.List.Sums.{sum_by-append, sum_by-cons}
use Rattle.definitions.proofs.Ranking.{NeverRises-ranked, NeverRises-take, ranked_falling as falling_ranked}
use Rattle.definitions.specs.Scanning.{insert_ranked, ranked}

-- an element and then the rest of its list, among the elements of another
abbrev pub into : {X : Type 0} → (X → ℕ) → X → (List X → List X) → List X → List X
into key w rest [] = w ∷ rest []
into key w rest (r ∷ rs) = if nat_le (key r) (key w) then w ∷ rest (r ∷ rs) else r ∷ into key w rest rs

-- two lists as one by falling keys; of equal keys that of the first list comes first
abbrev pub merged : {X : Type 0} → (X → ℕ) → List X → List X → List X
merged key [] rs = rs
merged key (w ∷ ws) rs = into key w (merged key ws) rs

-- one element alone is merged as it is inserted
inserted_alone : {X : Type 0} (key : X → ℕ) (x : X) (rs : List X) → insert_ranked key x rs ≡ into key x (merged key []) rs
inserted_alone key x [] = refl
inserted_alone {X} key x (r ∷ rs) = go (nat_le (key r) (key x)) (inserted_alone key x rs)
  where
    go : (b : Bool) → insert_ranked key x rs ≡ into key x (merged key []) rs → (if b then x ∷ r ∷ rs else r ∷ insert_ranked key x rs) ≡ (if b then x ∷ r ∷ rs else r ∷ into key x (merged key []) rs)
    go true ih = refl
    go false ih = ap (λ ws. r ∷ ws) ih

module _ {X : Type 0} (key : X → ℕ) (x w : X) (ws : List X) (ih : (rs : List X) → insert_ranked key x (merged key ws rs) ≡ merged key (insert_ranked key x ws) rs) where
  -- where it goes among a list that isn't empty
  abbrev WithIt : Bool → List X
  WithIt b = if b then x ∷ w ∷ ws else w ∷ insert_ranked key x ws

  inserted_before : (b : Bool) → nat_le (key w) (key x) ≡ b → (rs : List X) → insert_ranked key x (into key w (merged key ws) rs) ≡ merged key (WithIt b) rs
  inserted_before true e [] = rw e refl
  inserted_before false e [] = rw e (ap (λ zs. w ∷ zs) (ih []))
  inserted_before b e (r ∷ rs) = go b (nat_le (key r) (key w)) (nat_le (key r) (key x)) e refl refl (inserted_before b e rs)
    where
      go : (b a c : Bool) → nat_le (key w) (key x) ≡ b → nat_le (key r) (key w) ≡ a → nat_le (key r) (key x) ≡ c → insert_ranked key x (into key w (merged key ws) rs) ≡ merged key (WithIt b) rs → insert_ranked key x (into key w (merged key ws) (r ∷ rs)) ≡ merged key (WithIt b) (r ∷ rs)
      go true true true eb ea ec rest = rw (ea, ec, eb) refl
      go true true false eb ea ec rest = absurd (let l = leb-true _ _ eb in let m = leb-true _ _ ea in let n = leb-false _ _ ec in omega arith)
      go true false true eb ea ec rest = rw (ea, ec) refl
      go true false false eb ea ec rest = rw (ea, ec) (ap (λ zs. r ∷ zs) rest)
      go false true c eb ea ec rest = rw (ea, eb) (ap (λ zs. w ∷ zs) (ih (r ∷ rs)))
      go false false true eb ea ec rest = absurd (let l = leb-false _ _ eb in let m = leb-false _ _ ea in let n = leb-true _ _ ec in omega arith)
      go false false false eb ea ec rest = rw (ea, ec) (ap (λ zs. r ∷ zs) rest)

-- an insert goes into the first of two lists
insert_merged : {X : Type 0} (key : X → ℕ) (x : X) (ws rs : List X) → insert_ranked key x (merged key ws rs) ≡ merged key (insert_ranked key x ws) rs
insert_merged key x [] rs = inserted_alone key x rs
insert_merged key x (w ∷ ws) rs = inserted_before key x w ws (insert_merged key x ws) (nat_le (key w) (key x)) refl rs

-- the ranking of one list behind another is the merge of their rankings
pub ranked_merged : {X : Type 0} (key : X → ℕ) (xs ys : List X) → ranked key (xs ++ ys) ≡ merged key (ranked key xs) (ranked key ys)
ranked_merged key [] ys = refl
ranked_merged key (x ∷ xs) ys = ap (insert_ranked key x) (ranked_merged key xs ys) ∙ insert_merged key x (ranked key xs) (ranked key ys)

-- its first elements follow from those of both lists
first_merged : {X : Type 0} (key : X → ℕ) (k i j : ℕ) → k ≤ i → k ≤ j → (ws rs : List X) → take k (merged key (take i ws) (take j rs)) ≡ take k (merged key ws rs)
first_merged key zero i j hi hj ws rs = refl
first_merged key (suc k) zero j hi hj ws rs = absurd (omega arith)
first_merged key (suc k) (suc i) zero hi hj ws rs = absurd (omega arith)
first_merged key (suc k) (suc i) (suc j) hi hj [] rs = take-take (suc k) (suc j) rs hj
first_merged key (suc k) (suc i) (suc j) hi hj (w ∷ ws) [] = ap (λ zs. w ∷ zs) (first_merged key k i (suc j) (omega arith) (omega arith) ws [])
first_merged {X} key (suc k) (suc i) (suc j) hi hj (w ∷ ws) (r ∷ rs) =
    go (nat_le (key r) (key w)) (first_merged key k i (suc j) (omega arith) (omega arith) ws (r ∷ rs)) (first_merged key k (suc i) j (omega arith) (omega arith) (w ∷ ws) rs)
  where
    go : (b : Bool) → take k (merged key (take i ws) (r ∷ take j rs)) ≡ take k (merged key ws (r ∷ rs)) → take k (into key w (merged key (take i ws)) (take j rs)) ≡ take k (into key w (merged key ws) rs)
        → take (suc k) (if b then w ∷ merged key (take i ws) (r ∷ take j rs) else r ∷ into key w (merged key (take i ws)) (take j rs)) ≡ take (suc k) (if b then w ∷ merged key ws (r ∷ rs) else r ∷ into key w (merged key ws) rs)
    go true one other = ap (λ zs. w ∷ zs) one
    go false one other = ap (λ zs. r ∷ zs) other

-- the best of two lists from as many of the first, or more, and from a list with the same best as the second
best_of_both : {X : Type 0} (key : X → ℕ) (k j : ℕ) → k ≤ j → (xs ys zs : List X) → take k (ranked key ys) ≡ take k (ranked key zs) → take k (ranked key (take j (ranked key xs) ++ ys)) ≡ take k (ranked key (xs ++ zs))
best_of_both key k j enough xs ys zs same =
    let first = take j (ranked key xs) in
    let own : ranked key first ≡ first = falling_ranked key first (NeverRises-take key j (ranked key xs) (NeverRises-ranked key xs)) in
    ap (take k) (ranked_merged key first ys ∙ ap (λ ws. merged key ws (ranked key ys)) own)
    ∙ sym (first_merged key k k k (omega arith) (omega arith) first (ranked key ys))
    ∙ ap (λ ws. take k (merged key ws (take k (ranked key ys)))) (take-take k j (ranked key xs) enough)
    ∙ ap (λ rs. take k (merged key (take k (ranked key xs)) rs)) same
    ∙ first_merged key k k k (omega arith) (omega arith) (ranked key xs) (ranked key zs)
    ∙ ap (take k) (sym (ranked_merged key xs zs))

-- the best of what lists give, one behind the other, from the best of what each gives
pub best_of_all : {X Y : Type 0} (key : Y → ℕ) (f : X → Option Y) (k j : ℕ) → k ≤ j → (xss : List (List X))
    → take k (ranked key (flat_map (λ xs. take j (ranked key (filter_map f xs))) xss)) ≡ take k (ranked key (filter_map f (flat_map (λ xs. xs) xss)))
best_of_all key f k j enough [] = refl
best_of_all {X} key f k j enough (xs ∷ xss) =
    let rest : List X = flat_map (λ ys. ys) xss in
    best_of_both key k j enough (filter_map f xs) (flat_map (λ ys. take j (ranked key (filter_map f ys))) xss) (filter_map f rest) (best_of_all key f k j enough xss)
    ∙ ap (λ ys. take k (ranked key ys)) (sym (filter_map-append f xs rest))

-- as many pass a test in all lists as in each, added up
pub count_of_all : {X : Type 0} (p : X → Bool) (xss : List (List X)) → count_by p (flat_map (λ xs. xs) xss) ≡ sum (map (count_by p) xss)
count_of_all p [] = refl
count_of_all {X} p (xs ∷ xss) =
    let f : X → ℕ = λ x. cond (p x) 1 0 in
    sum_by-append f xs (flat_map (λ ys. ys) xss)
    ∙ ap (λ n. count_by p xs + n) (count_of_all p xss)
    ∙ sym (sum_by-cons (λ n. n) (count_by p xs) (map (count_by p) xss))
