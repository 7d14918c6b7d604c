-- What a commit's body says: the segments that are committed before by their indices, and new ones whole.
use Rattle.std.specs.Prelude.{[], ◌++◌, ◌-◌, ◌∷◌, List, drop, map, suc, zero, ℕ}
use Rattle.segment_definitions.specs.ListBodies.{Part, fresh, kept}

-- a number of kept segments, by their indices from one on
abbrev pub kept_from : ℕ → ℕ → List Part
kept_from index zero = []
kept_from index (suc more) = kept index ∷ kept_from (suc index) more

-- the segments of these bytes, the first of them kept
abbrev pub next_parts : ℕ → List (List ℕ) → List Part
next_parts num_kept segments = kept_from 0 num_kept ++ map fresh (drop num_kept segments)

-- `num_kept` kept segments, of which those from one index to another give way to the segments of these bytes
abbrev pub merged_parts : ℕ → ℕ → ℕ → List (List ℕ) → List Part
merged_parts num_kept from to segments = kept_from 0 from ++ (map fresh segments ++ kept_from to (num_kept - to))
