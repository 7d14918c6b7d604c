-- What a merge leaves.
use Rattle.std.proofs.Common.{[], ◌++◌, ◌-◌, ◌∙◌, ◌∷◌, ◌≡◌, List, ap, ap₂, drop, flat_map, map, refl, suc, take, zero, ℕ}
use Rattle.std.proofs.lemmas.List.{map-append}
use Rattle.definitions.specs.Alive.{Segment, live, live_groups}
use Rattle.definitions.specs.State.{as_group, living, merged}

map_take : (n : ℕ) (rows : List Segment) → map living (take n rows) ≡ take n (map living rows)
map_take zero rows = refl
map_take (suc n) [] = refl
map_take (suc n) (r ∷ rows) = ap (λ gs. living r ∷ gs) (map_take n rows)

map_drop : (n : ℕ) (rows : List Segment) → map living (drop n rows) ≡ drop n (map living rows)
map_drop zero rows = refl
map_drop (suc n) [] = refl
map_drop (suc n) (r ∷ rows) = map_drop n rows

pub live_joined : (rows : List Segment) → live rows ≡ flat_map (λ g. g) (live_groups rows)
live_joined [] = refl
live_joined (r ∷ rows) = ap (λ docs. living r ++ docs) (live_joined rows)

-- one member, or none, in place of a range
pub merged_groups : (from to : ℕ) (rows one : List Segment) → live_groups one ≡ as_group (live (take (to - from) (drop from rows))) → live_groups (take from rows ++ (one ++ drop to rows)) ≡ merged from to (live_groups rows)
merged_groups from to rows one e =
    let inner = live_joined (take (to - from) (drop from rows)) ∙ ap (flat_map (λ g. g)) (map_take (to - from) (drop from rows) ∙ ap (take (to - from)) (map_drop from rows)) in
    map-append living (take from rows) (one ++ drop to rows)
    ∙ ap₂ (λ first more. first ++ more) (map_take from rows) (map-append living one (drop to rows) ∙ ap₂ (λ a b. a ++ b) (e ∙ ap as_group inner) (map_drop to rows))
