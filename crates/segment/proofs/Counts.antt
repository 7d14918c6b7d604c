-- How many documents of members are alive.
use Rattle.std.proofs.Common.{[], Bool, List, ap, ap₂, arith, cond, false, length, map, refl, suc, sym, take, true, zero, ◌++◌, ◌+◌, ◌<◌, ◌≡◌, ◌≤◌, ◌∙◌, ◌∷◌, ℕ}
use Rattle.std.proofs.lemmas.List.Recursion.{is_count_by}
use Rattle.std.proofs.lemmas.List.{length-map}
use Rattle.std.specs.List.{items_where_true, slice_index_or, zip}
use Rattle.common.specs.BitSets.{count_set}
use Rattle.definitions.specs.Merging.{num_living}
use Rattle.segment.specs.Members.{Member, living_count}

-- the flags that are set are those of living documents
pub set_living : (flags : List Bool) → num_living flags ≡ count_set flags
set_living flags = is_count_by num_living (λ flag. flag) refl next flags
  where
    next : (flag : Bool) (flags : List Bool) → num_living (flag ∷ flags) ≡ cond flag (1 + num_living flags) (num_living flags)
    next true flags = omega arith
    next false flags = refl

-- what the living have is as much as there are living
pub living_long : {X : Type 0} (flags : List Bool) (xs : List X) → length xs ≡ length flags → length (items_where_true flags xs) ≡ num_living flags
living_long [] [] long = refl
living_long [] (x ∷ xs) long = absurd (omega (arith, long))
living_long (flag ∷ flags) [] long = absurd (omega (arith, long))
living_long (true ∷ flags) (x ∷ xs) long = ap suc (living_long flags xs (omega (arith, long)))
living_long (false ∷ flags) (x ∷ xs) long = living_long flags xs (omega (arith, long))

-- ---- member by member

count_suc : (k : ℕ) (ms : List Member) (d : Member) → k < length ms → living_count (take (suc k) ms) ≡ living_count (take k ms) + num_living (slice_index_or ms k d).1
count_suc k [] d within = absurd (omega (arith, within))
count_suc zero (m ∷ ms) d within = omega arith
count_suc (suc k) (m ∷ ms) d within = (let later = count_suc k ms d (omega (arith, within)) in omega (arith, later))

pub count_more : (k : ℕ) (ms : List Member) (m : Member) → m ≡ slice_index_or ms k m → k < length ms → living_count (take (k + 1) ms) ≡ living_count (take k ms) + num_living m.1
count_more k ms m is within = ap (λ n. living_count (take n ms)) (let e : k + 1 ≡ suc k = omega arith in e) ∙ count_suc k ms m within ∙ ap (λ (x : Member). living_count (take k ms) + num_living x.1) (sym is)

pub count_front : (k : ℕ) (ms : List Member) → living_count (take k ms) ≤ living_count ms
count_front zero ms = omega arith
count_front (suc k) [] = omega arith
count_front (suc k) (m ∷ ms) = (let later = count_front k ms in omega (arith, later))

-- ---- of what is made of each

-- what is made of the element at an index stands at that index
pub mapped_at : {X Y : Type 0} (f : X → Y) (k : ℕ) (xs : List X) (x : X) → x ≡ slice_index_or xs k x → k < length xs → f x ≡ slice_index_or (map f xs) k (f x)
mapped_at f k [] x is within = absurd (omega (arith, within))
mapped_at f zero (y ∷ xs) x is within = ap f is
mapped_at f (suc k) (y ∷ xs) x is within = mapped_at f k xs x is (omega (arith, within))

pub mapped_within : {X Y : Type 0} (f : X → Y) (k : ℕ) (xs : List X) → k < length xs → k < length (map f xs)
mapped_within f k xs within = (let long = length-map xs f in omega (arith, long, within))

pub mapped_twice : {X Y Z : Type 0} (f : X → Y) (g : Y → Z) (xs : List X) → map g (map f xs) ≡ map (λ x. g (f x)) xs
mapped_twice f g [] = refl
mapped_twice f g (x ∷ xs) = ap (λ zs. g (f x) ∷ zs) (mapped_twice f g xs)

-- ---- pairs of two lists

-- one pair more
pub zipped_more : {X Y : Type 0} (k : ℕ) (xs : List X) (ys : List Y) (x : X) (y : Y) → x ≡ slice_index_or xs k x → y ≡ slice_index_or ys k y → k < length xs → k < length ys → zip (take (k + 1) xs) (take (k + 1) ys) ≡ zip (take k xs) (take k ys) ++ (x, y) ∷ []
zipped_more k [] ys x y one other within inside = absurd (omega (arith, within))
zipped_more k (a ∷ xs) [] x y one other within inside = absurd (omega (arith, inside))
zipped_more zero (a ∷ xs) (b ∷ ys) x y one other within inside = ap₂ (λ (p : _) (q : _). (p, q) ∷ []) (sym one) (sym other)
zipped_more (suc k) (a ∷ xs) (b ∷ ys) x y one other within inside =
    ap (λ n. zip (take n (a ∷ xs)) (take n (b ∷ ys))) (let e : suc k + 1 ≡ suc (k + 1) = omega arith in e)
    ∙ ap (λ ps. (a, b) ∷ ps) (zipped_more k xs ys x y one other (omega (arith, within)) (omega (arith, inside)))
