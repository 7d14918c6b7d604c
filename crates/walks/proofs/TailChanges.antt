-- Lists whose items from an index on are changed one after another.
use Rattle.std.proofs.Common.{[], List, ap, arith, drop, get_or, length, map, refl, set, subst, suc, take, zero, ◌++◌, ◌+◌, ◌<◌, ◌∷◌, ◌≡◌, ◌≤◌, ℕ}
use Rattle.docsets.proofs.ChangedLists.{changed-all, changed-get, changed-length, changed-set}

-- `j` behind the first `n` are changed
abbrev pub tail_changed : {X : Type 0} → (X → X) → ℕ → ℕ → List X → List X
tail_changed f n j xs = take n xs ++ (map f (take j (drop n xs)) ++ drop j (drop n xs))

pub tail-none : {X : Type 0} (f : X → X) (n : ℕ) (xs : List X) → tail_changed f n 0 xs ≡ xs
tail-none f zero xs = refl
tail-none f (suc n) [] = refl
tail-none f (suc n) (x ∷ xs) = ap (λ ys. x ∷ ys) (tail-none f n xs)

pub tail-get : {X : Type 0} (f : X → X) (n j i : ℕ) (xs : List X) (d : X) → i ≡ n + j → i < length xs → get_or (tail_changed f n j xs) i d ≡ get_or xs i d
tail-get f zero j i xs d is within = (let same : j ≡ i = omega (arith, is) in subst (λ k. get_or (map f (take j xs) ++ drop j xs) k d ≡ get_or xs k d) same (changed-get f j xs d (omega (arith, within, same))))
tail-get f (suc n) j zero xs d is within = absurd (omega (arith, is))
tail-get f (suc n) j (suc i) [] d is within = absurd (omega (arith, within))
tail-get f (suc n) j (suc i) (x ∷ xs) d is within = tail-get f n j i xs d (omega (arith, is)) (omega (arith, within))

pub tail-set : {X : Type 0} (f : X → X) (n j i : ℕ) (xs : List X) (d : X) → i ≡ n + j → i < length xs → set (tail_changed f n j xs) i (f (get_or xs i d)) ≡ tail_changed f n (suc j) xs
tail-set f zero j i xs d is within = (let same : j ≡ i = omega (arith, is) in subst (λ k. set (map f (take j xs) ++ drop j xs) k (f (get_or xs k d)) ≡ map f (take (suc j) xs) ++ drop (suc j) xs) same (changed-set f j xs d (omega (arith, within, same))))
tail-set f (suc n) j zero xs d is within = absurd (omega (arith, is))
tail-set f (suc n) j (suc i) [] d is within = absurd (omega (arith, within))
tail-set f (suc n) j (suc i) (x ∷ xs) d is within = ap (λ ys. x ∷ ys) (tail-set f n j i xs d (omega (arith, is)) (omega (arith, within)))

pub tail-length : {X : Type 0} (f : X → X) (n j : ℕ) (xs : List X) → length (tail_changed f n j xs) ≡ length xs
tail-length f zero j xs = changed-length f j xs
tail-length f (suc n) j [] = changed-length f j []
tail-length f (suc n) j (x ∷ xs) = ap suc (tail-length f n j xs)

pub tail-all : {X : Type 0} (f : X → X) (n j : ℕ) (xs : List X) → length xs ≤ n + j → tail_changed f n j xs ≡ take n xs ++ map f (drop n xs)
tail-all f zero j xs far = changed-all f j xs (omega (arith, far))
tail-all f (suc n) j [] far = changed-all f j [] (omega arith)
tail-all f (suc n) j (x ∷ xs) far = ap (λ ys. x ∷ ys) (tail-all f n j xs (omega (arith, far)))

-- what is behind the first
pub drop-tail : {X : Type 0} (f : X → X) (n : ℕ) (xs : List X) → drop n (take n xs ++ map f (drop n xs)) ≡ map f (drop n xs)
drop-tail f zero xs = refl
drop-tail f (suc n) [] = refl
drop-tail f (suc n) (x ∷ xs) = drop-tail f n xs

pub take-tail : {X : Type 0} (n : ℕ) (xs ys : List X) → n ≤ length xs → take n (take n xs ++ ys) ≡ take n xs
take-tail zero xs ys few = none ys
  where
    none : {X : Type 0} (zs : List X) → take {A = X} 0 zs ≡ []
    none zs = refl
take-tail (suc n) [] ys few = absurd (omega (arith, few))
take-tail (suc n) (x ∷ xs) ys few = ap (λ zs. x ∷ zs) (take-tail n xs ys (omega (arith, few)))
