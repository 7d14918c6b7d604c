-- Lists of which some elements give way to others, and pairs of lists.
use Rattle.std.proofs.Common.{[], ◌++◌, ◌+◌, ◌-◌, ◌∙◌, ◌∷◌, ◌≡◌, ◌≤◌, List, ap, ap₂, arith, drop, length, length-append, map, refl, suc, sym, take, zero, ℕ}
use Rattle.std.proofs.lemmas.List.{drop-map, length-drop, length-take-le, map-append, take-map}
use Rattle.std.specs.List.{AllByRecursion, AllZip, zip}
use Rattle.definitions.proofs.Lists.{all_append as all_both, all_drop, all_take}
use Rattle.segment_search.proofs.Places.{zip_more}
use Rattle.index_state.proofs.Members.{zip_take}
use Rattle.index_state.specs.Merges.{replaced}
use Rattle.layouts.proofs.DocumentEntries.{zip-take as zipped_take, zip-drop as zipped_drop}

-- ---- fronts and rests

pub zip_drop : {X Y : Type 0} (R : X → Y → Type 0) (xs : List X) (ys : List Y) (n : ℕ) → AllZip R xs ys → AllZip R (drop n xs) (drop n ys)
zip_drop R xs ys zero h = h
zip_drop R [] [] (suc n) h = tt
zip_drop R [] (y ∷ ys) (suc n) h = absurd h
zip_drop R (x ∷ xs) [] (suc n) h = absurd h
zip_drop R (x ∷ xs) (y ∷ ys) (suc n) h = zip_drop R xs ys n h.1

-- ---- with others in place of some

pub length-replaced : {X : Type 0} (from to : ℕ) (news xs : List X) → from ≤ length xs → length (replaced from to news xs) ≡ from + (length news + (length xs - to))
length-replaced from to news xs l =
    let first = length-take-le from xs l in
    let rest = length-drop to xs in
    let both = length-append (take from xs) (news ++ drop to xs) in
    let later = length-append news (drop to xs) in
    omega (arith, first, rest, both, later)

pub all_replaced : {X : Type 0} (P : X → Type 0) (from to : ℕ) (news xs : List X) → AllByRecursion P news → AllByRecursion P xs → AllByRecursion P (replaced from to news xs)
all_replaced P from to news xs new old = all_both P (take from xs) (news ++ drop to xs) (all_take P from xs old) (all_both P news (drop to xs) new (all_drop P to xs old))

pub zip_replaced : {X Y : Type 0} (R : X → Y → Type 0) (from to : ℕ) (news xs : List X) (others ys : List Y) → AllZip R news others → AllZip R xs ys → AllZip R (replaced from to news xs) (replaced from to others ys)
zip_replaced R from to news xs others ys new old = zip_more R (take from xs) (news ++ drop to xs) (take from ys) (others ++ drop to ys) (zip_take R xs ys from old) (zip_more R news (drop to xs) others (drop to ys) new (zip_drop R xs ys to old))

pub map_replaced : {X Y : Type 0} (f : X → Y) (from to : ℕ) (news xs : List X) → map f (replaced from to news xs) ≡ replaced from to (map f news) (map f xs)
map_replaced f from to news xs =
    map-append f (take from xs) (news ++ drop to xs)
    ∙ ap₂ (λ first later. first ++ later) (sym (take-map f from xs)) (map-append f news (drop to xs) ∙ ap (λ rest. map f news ++ rest) (sym (drop-map f to xs)))

-- ---- pairs

pub zipped_both : {X Y : Type 0} (xs more : List X) (ys others : List Y) → length xs ≡ length ys → zip (xs ++ more) (ys ++ others) ≡ zip xs ys ++ zip more others
zipped_both [] more [] others e = refl
zipped_both [] more (y ∷ ys) others e = absurd (omega (arith, e))
zipped_both (x ∷ xs) more [] others e = absurd (omega (arith, e))
zipped_both (x ∷ xs) more (y ∷ ys) others e = ap (λ ps. (x, y) ∷ ps) (zipped_both xs more ys others (omega (arith, e)))

pub zipped_replaced : {X Y : Type 0} (from to : ℕ) (news xs : List X) (others ys : List Y) → length news ≡ length others → from ≤ length ys → length ys ≤ length xs → zip (replaced from to news xs) (replaced from to others ys) ≡ replaced from to (zip news others) (zip xs ys)
zipped_replaced from to news xs others ys same l k =
    let within : from ≤ length xs = omega (arith, l, k) in
    let one = length-take-le from xs within in
    let other = length-take-le from ys l in
    zipped_both (take from xs) (news ++ drop to xs) (take from ys) (others ++ drop to ys) (omega (arith, one, other))
    ∙ ap₂ (λ first later. first ++ later) (zipped_take from xs ys) (zipped_both news (drop to xs) others (drop to ys) same ∙ ap (λ rest. zip news others ++ rest) (zipped_drop to xs ys))
