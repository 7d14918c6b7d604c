-- Facts about lists ranked by a key.
use Rattle.std.proofs.Common.{[], ◌<◌, ◌∙◌, ◌∷◌, ◌≡◌, ◌≤◌, List, ap, arith, cond, false, le_of_lt, le_trans, leb-false, leb-true, length, map, nat_le, refl, suc, take, true, zero, ℕ, le-leb}
use Rattle.std.specs.Prelude.{⊤}
use Rattle.std.specs.List.{AllByRecursion}
use Rattle.definitions.proofs.Lists.{all_take as All_take}
use Rattle.definitions.specs.NumberedHits.{NeverRises, StandInOrder}
use Rattle.definitions.specs.Scanning.{insert_ranked, ranked}

-- an insert in order adds one element
length-insert_ranked : {X : Type 0} (key : X → ℕ) (x : X) (ys : List X) → length (insert_ranked key x ys) ≡ suc (length ys)
length-insert_ranked key x [] = refl
length-insert_ranked key x (y ∷ ys) = let ih = length-insert_ranked key x ys in elim (nat_le (key y) (key x)) as (λ b. length (cond b (x ∷ y ∷ ys) (y ∷ insert_ranked key x ys)) ≡ suc (suc (length ys))) [ true ↦ refl | false ↦ ap suc ih ]

-- a ranking has as many elements
pub length-ranked : {X : Type 0} (key : X → ℕ) (xs : List X) → length (ranked key xs) ≡ length xs
length-ranked key [] = refl
length-ranked key (x ∷ xs) = length-insert_ranked key x (ranked key xs) ∙ ap suc (length-ranked key xs)

-- a map that keeps keys commutes with an insert in order
map-insert_ranked : {X Y : Type 0} (f : X → Y) (key : X → ℕ) (other : Y → ℕ) → ((x : X) → other (f x) ≡ key x) → (x : X) (ys : List X) → map f (insert_ranked key x ys) ≡ insert_ranked other (f x) (map f ys)
map-insert_ranked f key other same x [] = refl
map-insert_ranked f key other same x (y ∷ ys) = let ih = map-insert_ranked f key other same x ys in rw (same y, same x) (elim (nat_le (key y) (key x)) as (λ b. map f (cond b (x ∷ y ∷ ys) (y ∷ insert_ranked key x ys)) ≡ cond b (f x ∷ f y ∷ map f ys) (f y ∷ insert_ranked other (f x) (map f ys))) [ true ↦ refl | false ↦ ap (λ zs. f y ∷ zs) ih ])

-- a map that keeps keys commutes with the ranking
pub map-ranked : {X Y : Type 0} (f : X → Y) (key : X → ℕ) (other : Y → ℕ) → ((x : X) → other (f x) ≡ key x) → (xs : List X) → map f (ranked key xs) ≡ ranked other (map f xs)
map-ranked f key other same [] = refl
map-ranked f key other same (x ∷ xs) = map-insert_ranked f key other same x (ranked key xs) ∙ ap (insert_ranked other (f x)) (map-ranked f key other same xs)

-- what holds of an element and of a list holds of the list with it inserted
All-insert_ranked : {X : Type 0} (P : X → Type 0) (key : X → ℕ) (x : X) (ys : List X) → P x → AllByRecursion P ys → AllByRecursion P (insert_ranked key x ys)
All-insert_ranked P key x [] h hs = (h, tt)
All-insert_ranked P key x (y ∷ ys) h hs = let ih = All-insert_ranked P key x ys h hs.1 in elim (nat_le (key y) (key x)) as (λ b. AllByRecursion P (cond b (x ∷ y ∷ ys) (y ∷ insert_ranked key x ys))) [ true ↦ (h, hs) | false ↦ (hs.0, ih) ]

-- what holds of each element holds along the ranking
pub All-ranked : {X : Type 0} (P : X → Type 0) (key : X → ℕ) (xs : List X) → AllByRecursion P xs → AllByRecursion P (ranked key xs)
All-ranked P key [] h = tt
All-ranked P key (x ∷ xs) h = All-insert_ranked P key x (ranked key xs) h.0 (All-ranked P key xs h.1)

-- what follows from what holds of each element holds of each
pub All_weaker : {X : Type 0} (P Q : X → Type 0) → ((x : X) → P x → Q x) → (xs : List X) → AllByRecursion P xs → AllByRecursion Q xs
All_weaker P Q f [] h = tt
All_weaker P Q f (x ∷ xs) h = (f x h.0, All_weaker P Q f xs h.1)

-- what keys are at most, they are at most a greater number
pub All_below : {X : Type 0} (key : X → ℕ) (m n : ℕ) → m ≤ n → (xs : List X) → AllByRecursion (λ y. key y ≤ m) xs → AllByRecursion (λ y. key y ≤ n) xs
All_below key m n h xs hs = All_weaker (λ y. key y ≤ m) (λ y. key y ≤ n) (λ y l. le_trans l h) xs hs

-- an insert in order keeps keys from rising
NeverRises-insert_ranked : {X : Type 0} (key : X → ℕ) (x : X) (ys : List X) → NeverRises key ys → NeverRises key (insert_ranked key x ys)
NeverRises-insert_ranked key x [] h = (tt, tt)
NeverRises-insert_ranked {X} key x (y ∷ ys) h =
    let ih = NeverRises-insert_ranked key x ys h.1 in
    (elim (nat_le (key y) (key x)) as (λ b. nat_le (key y) (key x) ≡ b → NeverRises key (cond b (x ∷ y ∷ ys) (y ∷ insert_ranked key x ys))) [
      | true ↦ (λ e. let l = leb-true (key y) (key x) e in ((l, All_below key (key y) (key x) l ys h.0), h))
      | false ↦ (λ e. (All-insert_ranked (λ z. key z ≤ key y) key x ys (le_of_lt (leb-false (key y) (key x) e)) h.0, ih))
    ]) refl

-- keys never rise along a ranking
pub NeverRises-ranked : {X : Type 0} (key : X → ℕ) (xs : List X) → NeverRises key (ranked key xs)
NeverRises-ranked key [] = tt
NeverRises-ranked key (x ∷ xs) = NeverRises-insert_ranked key x (ranked key xs) (NeverRises-ranked key xs)

-- nor do they rise along its first elements
pub NeverRises-take : {X : Type 0} (key : X → ℕ) (k : ℕ) (xs : List X) → NeverRises key xs → NeverRises key (take k xs)
NeverRises-take key zero xs h = tt
NeverRises-take key (suc k) [] h = tt
NeverRises-take key (suc k) (x ∷ xs) h = (All_take (λ y. key y ≤ key x) k xs h.0, NeverRises-take key k xs h.1)

-- an element whose place is below all others goes before those with its key
StandInOrder-insert_ranked : {X : Type 0} (key place : X → ℕ) (x : X) (ys : List X) → AllByRecursion (λ y. place x < place y) ys → StandInOrder key place ys → StandInOrder key place (insert_ranked key x ys)
StandInOrder-insert_ranked key place x [] larger h = (tt, tt)
StandInOrder-insert_ranked {X} key place x (y ∷ ys) larger h =
    let ih = StandInOrder-insert_ranked key place x ys larger.1 h.1 in
    (elim (nat_le (key y) (key x)) as (λ b. nat_le (key y) (key x) ≡ b → StandInOrder key place (cond b (x ∷ y ∷ ys) (y ∷ insert_ranked key x ys))) [
      | true ↦ (λ e. (All_weaker (λ z. place x < place z) (λ z. key z ≡ key x → place x < place z) (λ z l same. l) (y ∷ ys) larger, h))
      | false ↦ (λ e. let l = leb-false (key y) (key x) e in (All-insert_ranked (λ z. key z ≡ key y → place y < place z) key x ys (λ same. absurd (omega arith)) h.0, ih))
    ]) refl

-- no place is below one before it
abbrev pub PlacesRise : {X : Type 0} → (X → ℕ) → List X → Type 0
PlacesRise place [] = ⊤
PlacesRise place (x ∷ xs) = AllByRecursion (λ y. place x < place y) xs × PlacesRise place xs

-- a ranking of elements whose places rise keeps those with one key in order
pub StandInOrder-ranked : {X : Type 0} (key place : X → ℕ) (xs : List X) → PlacesRise place xs → StandInOrder key place (ranked key xs)
StandInOrder-ranked key place [] h = tt
StandInOrder-ranked key place (x ∷ xs) h = StandInOrder-insert_ranked key place x (ranked key xs) (All-ranked (λ y. place x < place y) key xs h.0) (StandInOrder-ranked key place xs h.1)

-- so do the first elements
pub StandInOrder-take : {X : Type 0} (key place : X → ℕ) (k : ℕ) (xs : List X) → StandInOrder key place xs → StandInOrder key place (take k xs)
StandInOrder-take key place zero xs h = tt
StandInOrder-take key place (suc k) [] h = tt
StandInOrder-take key place (suc k) (x ∷ xs) h = (All_take (λ y. key y ≡ key x → place x < place y) k xs h.0, StandInOrder-take key place k xs h.1)

pub ranked_falling : {X : Type 0} (key : X → ℕ) (xs : List X) → NeverRises key xs → ranked key xs ≡ xs
ranked_falling key [] h = refl
ranked_falling {X} key (x ∷ xs) h = ap (insert_ranked key x) (ranked_falling key xs h.1) ∙ first xs h.0
  where
    first : (ys : List X) → AllByRecursion (λ y. key y ≤ key x) ys → insert_ranked key x ys ≡ x ∷ ys
    first [] h = refl
    first (y ∷ ys) h = rw (le-leb (key y) (key x) h.0) refl
