-- The bodies of later records: the segments after a commit or a merge, and which of their documents are alive.
use Rattle.std.specs.Prelude.{◌++◌, ◌<◌, ◌^◌, ◌∷◌, ◌≡◌, Bool, List, None, Option, Some, filter_map, flat_map, length, map, slice_get, ℕ}
use Rattle.std.specs.List.{AllByRecursion, AllZip}
use Rattle.definitions.specs.NumberCodes.{u32_bytes, u64_bytes}
use Rattle.layouts.specs.AliveSets.{alive_bytes}
use Rattle.layouts.specs.Deltas.{IsAscendingFrom}

-- the bytes of a segment, and a flag for each of its documents: whether it is alive
abbrev pub Member : Type 0
Member = List ℕ × List Bool

-- a segment of the list before by its index there, or the bytes of a new one
pub data Part : Type 0 where
  kept : ℕ → Part
  fresh : List ℕ → Part

-- a code, and the index, or the length and the segment
abbrev pub part_bytes : Part → List ℕ
part_bytes (kept index) = 0 ∷ u32_bytes index
part_bytes (fresh segment) = 1 ∷ u64_bytes (length segment) ++ segment

-- byte 2, how many segments there are, these, and then the alive set of each
unfoldable pub segments_body : List Part → List (List Bool) → List ℕ
segments_body parts sets = 2 ∷ u32_bytes (length parts) ++ flat_map part_bytes parts ++ flat_map alive_bytes sets

-- ---- what a body makes of the list before

-- the segment of a part: the one that stands at its index in the list before, or its own
abbrev pub IsOfPart : List Member → Part → Member → Type 0
IsOfPart before (kept index) m = (flags : List Bool) × (slice_get before index ≡ Some (m.0, flags))
IsOfPart before (fresh segment) m = segment ≡ m.0

-- the index of a segment that is kept
abbrev pub place_of : Part → Option ℕ
place_of (kept index) = Some index
place_of (fresh segment) = None

-- numbers are written in four bytes, and lengths in eight
abbrev pub Fits : Part → Type 0
Fits (kept index) = index < 2 ^ 32
Fits (fresh segment) = length segment < 2 ^ 64

-- a segment in its layout, with a flag for each of its documents
abbrev pub IsMember : (ℕ → List ℕ → Type 0) → Member → Type 0
IsMember is_segment m = is_segment (length m.1) m.0 × (length m.1 < 2 ^ 32)

-- The body makes this list of the list before. The indices of kept segments ascend strictly, so that none stands twice;
-- they needn't be neighbours. The alive sets replace those before.
pub record Makes (is_segment : ℕ → List ℕ → Type 0) (before after : List Member) (body : List ℕ) : Type 0 where
  pub parts : List Part
  pub parts_are : AllZip (IsOfPart before) parts after
  pub ascend : IsAscendingFrom 0 (filter_map place_of parts)
  pub fit : AllByRecursion Fits parts
  pub num_parts_fits : length parts < 2 ^ 32
  pub members : AllByRecursion (IsMember is_segment) after
  pub body_is : body ≡ segments_body parts (map (λ m. m.1) after)
