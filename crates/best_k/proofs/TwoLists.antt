-- The ranking of one list behind another.
use Rattle.std.proofs.Common.{[], Bool, List, ap, false, if◌then◌else◌, le-leb, length, length-append, nat_le, refl, subst, suc, sym, take, true, ◌++◌, ◌+◌, ◌<◌, ◌∙◌, ◌∷◌, ◌≡◌, ◌≤◌, ℕ}
use Rattle.std.specs.List.{AllByRecursion}
use Rattle.std.proofs.lemmas.Bool.{lt-leb}
use Rattle.std.proofs.lemmas.List.{append-nil, append_assoc}
use Rattle.definitions.proofs.Ranking.{All-ranked, NeverRises-ranked, NeverRises-take, length-ranked, ranked_falling}
use Rattle.definitions.specs.NumberedHits.{NeverRises}
use Rattle.definitions.specs.Scanning.{insert_ranked, ranked}
use Rattle.best_k.proofs.Bests.{insert_last, ranked_with_one}
use Rattle.best_k.specs.Kept.{best_by}
use Rattle.definitions.proofs.Lists.{all_append as all_of_both}

-- ---- an element behind the others

-- behind all whose keys aren't below its own
goes_behind : {X : Type 0} (key : X → ℕ) (w : X) (zs : List X) → AllByRecursion (λ z. key w ≤ key z) zs → insert_last key w zs ≡ zs ++ w ∷ []
goes_behind key w [] h = refl
goes_behind key w (z ∷ zs) h = rw (le-leb (key w) (key z) h.0) (ap (λ ws. z ∷ ws) (goes_behind key w zs h.1))

-- behind all whose keys are above its own
goes_below : {X : Type 0} (key : X → ℕ) (w : X) (zs : List X) → AllByRecursion (λ z. key w < key z) zs → insert_ranked key w zs ≡ zs ++ w ∷ []
goes_below key w [] h = refl
goes_below key w (z ∷ zs) h = rw (lt-leb (key z) (key w) h.0) (ap (λ ws. z ∷ ws) (goes_below key w zs h.1))

-- a last one that isn't better stays the last
stays_last : {X : Type 0} (key : X → ℕ) (x w : X) (zs : List X) → key w ≤ key x → insert_ranked key x (zs ++ w ∷ []) ≡ insert_ranked key x zs ++ w ∷ []
stays_last key x w [] l = rw (le-leb (key w) (key x) l) refl
stays_last {X} key x w (z ∷ zs) l = go (nat_le (key z) (key x)) (stays_last key x w zs l)
  where
    go : (b : Bool) → insert_ranked key x (zs ++ w ∷ []) ≡ insert_ranked key x zs ++ w ∷ [] → (if b then x ∷ z ∷ (zs ++ w ∷ []) else z ∷ insert_ranked key x (zs ++ w ∷ [])) ≡ (if b then x ∷ z ∷ zs else z ∷ insert_ranked key x zs) ++ w ∷ []
    go true ih = refl
    go false ih = ap (λ ws. z ∷ ws) ih

-- so does one that is worse than what is put last
stays_behind : {X : Type 0} (key : X → ℕ) (y w : X) (zs : List X) → key w < key y → insert_last key y (zs ++ w ∷ []) ≡ insert_last key y zs ++ w ∷ []
stays_behind key y w [] l = rw (lt-leb (key y) (key w) l) refl
stays_behind {X} key y w (z ∷ zs) l = go (nat_le (key y) (key z)) (stays_behind key y w zs l)
  where
    go : (b : Bool) → insert_last key y (zs ++ w ∷ []) ≡ insert_last key y zs ++ w ∷ [] → (if b then z ∷ insert_last key y (zs ++ w ∷ []) else y ∷ z ∷ (zs ++ w ∷ [])) ≡ (if b then z ∷ insert_last key y zs else y ∷ z ∷ zs) ++ w ∷ []
    go true ih = ap (λ ws. z ∷ ws) ih
    go false ih = refl

-- ---- one list behind another

-- the second by its ranking alone
ranked_behind : {X : Type 0} (key : X → ℕ) (xs ys zs : List X) → ranked key ys ≡ ranked key zs → ranked key (xs ++ ys) ≡ ranked key (xs ++ zs)
ranked_behind key [] ys zs same = same
ranked_behind key (x ∷ xs) ys zs same = ap (insert_ranked key x) (ranked_behind key xs ys zs same)

ranked_twice : {X : Type 0} (key : X → ℕ) (xs : List X) → ranked key (ranked key xs) ≡ ranked key xs
ranked_twice key xs = ranked_falling key (ranked key xs) (NeverRises-ranked key xs)

-- one more behind a ranking
ranked_and_one : {X : Type 0} (key : X → ℕ) (xs : List X) (y : X) → ranked key (ranked key xs ++ y ∷ []) ≡ ranked key (xs ++ y ∷ [])
ranked_and_one key xs y = ranked_with_one key y (ranked key xs) ∙ ap (insert_last key y) (ranked_twice key xs) ∙ sym (ranked_with_one key y xs)

-- one more in the second list is one more of both
pub one_newer : {X : Type 0} (key : X → ℕ) (xs ys : List X) (y : X) → ranked key (xs ++ ranked key (ys ++ y ∷ [])) ≡ ranked key (ranked key (xs ++ ys) ++ y ∷ [])
one_newer key xs ys y =
    ranked_behind key xs (ranked key (ys ++ y ∷ [])) (ys ++ y ∷ []) (ranked_twice key (ys ++ y ∷ []))
    ∙ ap (ranked key) (sym (append_assoc xs ys (y ∷ [])))
    ∙ sym (ranked_and_one key (xs ++ ys) y)

-- one more where nothing is in the second
pub one_older : {X : Type 0} (key : X → ℕ) (xs : List X) (y : X) → ranked key (ranked key (xs ++ y ∷ []) ++ []) ≡ ranked key (xs ++ y ∷ [])
one_older key xs y = ap (ranked key) (append-nil (ranked key (xs ++ y ∷ []))) ∙ ranked_twice key (xs ++ y ∷ [])

-- ---- the last of both

holds_of_last : {X : Type 0} (P : X → Type 0) (w : X) (xs : List X) → AllByRecursion P (xs ++ w ∷ []) → P w
holds_of_last P w [] h = h.0
holds_of_last P w (x ∷ xs) h = holds_of_last P w xs h.1

-- no key is below the last
pub above_last : {X : Type 0} (key : X → ℕ) (w : X) (xs : List X) → NeverRises key (xs ++ w ∷ []) → AllByRecursion (λ z. key w ≤ key z) xs
above_last key w [] falls = tt
above_last key w (x ∷ xs) falls = (holds_of_last (λ y. key y ≤ key x) w xs falls.0, above_last key w xs falls.1)

-- it is the last of the second list, where no other key is below its own
pub last_newer : {X : Type 0} (key : X → ℕ) (w : X) (xs ys : List X) → AllByRecursion (λ z. key w ≤ key z) xs → AllByRecursion (λ z. key w ≤ key z) ys → ranked key (xs ++ (ys ++ w ∷ [])) ≡ ranked key (xs ++ ys) ++ w ∷ []
last_newer key w xs ys above over =
    ap (ranked key) (sym (append_assoc xs ys (w ∷ [])))
    ∙ ranked_with_one key w (xs ++ ys)
    ∙ goes_behind key w (ranked key (xs ++ ys)) (All-ranked (λ z. key w ≤ key z) key (xs ++ ys) (all_of_both (λ z. key w ≤ key z) xs ys above over))

-- it is the last of the first list, where all keys in the second are above its own
pub last_older : {X : Type 0} (key : X → ℕ) (w : X) (xs ys : List X) → AllByRecursion (λ z. key w ≤ key z) xs → AllByRecursion (λ z. key w < key z) ys → ranked key ((xs ++ w ∷ []) ++ ys) ≡ ranked key (xs ++ ys) ++ w ∷ []
last_older key w [] ys above over = goes_below key w (ranked key ys) (All-ranked (λ z. key w < key z) key ys over)
last_older key w (x ∷ xs) ys above over =
    ap (insert_ranked key x) (last_older key w xs ys above.1 over)
    ∙ stays_last key x w (ranked key (xs ++ ys)) above.0

-- ---- one in place of the last

pub take_before : {X : Type 0} (xs : List X) (w : X) → take (length xs) (xs ++ w ∷ []) ≡ xs
take_before [] w = refl
take_before (x ∷ xs) w = ap (λ ws. x ∷ ws) (take_before xs w)

falls_before : {X : Type 0} (key : X → ℕ) (w : X) (xs : List X) → NeverRises key (xs ++ w ∷ []) → NeverRises key xs
falls_before key w xs falls = subst (NeverRises key) (take_before xs w) (NeverRises-take key (length xs) (xs ++ w ∷ []) falls)

length-insert_last : {X : Type 0} (key : X → ℕ) (y : X) (zs : List X) → length (insert_last key y zs) ≡ suc (length zs)
length-insert_last key y [] = refl
length-insert_last {X} key y (z ∷ zs) = go (nat_le (key y) (key z)) (length-insert_last key y zs)
  where
    go : (b : Bool) → length (insert_last key y zs) ≡ suc (length zs) → length (if b then z ∷ insert_last key y zs else y ∷ z ∷ zs) ≡ suc (suc (length zs))
    go true ih = ap suc ih
    go false ih = refl

-- the best with a better one than the last
pub in_place_of_last : {X : Type 0} (key : X → ℕ) (y w : X) (xs : List X) → NeverRises key (xs ++ w ∷ []) → key w < key y → best_by key (suc (length xs)) ((xs ++ w ∷ []) ++ y ∷ []) ≡ ranked key (xs ++ y ∷ [])
in_place_of_last {X} key y w xs falls l =
    let own = ranked_falling key xs (falls_before key w xs falls) in
    let long = length-insert_last key y xs in
    ap (take (suc (length xs))) (ranked_with_one key y (xs ++ w ∷ []) ∙ ap (insert_last key y) (ranked_falling key (xs ++ w ∷ []) falls) ∙ stays_behind key y w xs l)
    ∙ ap (λ n. take n (insert_last key y xs ++ w ∷ [])) (sym long)
    ∙ take_before (insert_last key y xs) w
    ∙ ap (insert_last key y) (sym own)
    ∙ sym (ranked_with_one key y xs)

-- ---- how many they are

pub length_of_both : {X : Type 0} (key : X → ℕ) (xs ys : List X) → length (ranked key (xs ++ ys)) ≡ length xs + length ys
length_of_both key xs ys = length-ranked key (xs ++ ys) ∙ length-append xs ys
