-- The indices of kept segments in the list before.
use Rattle.std.specs.Prelude.{[], ◌&&◌, ◌+◌, ◌<◌, ◌∷◌, ◌≡◌, Bool, List, filter_map, length, map, nat_le, nat_lt, true, ℕ}
use Rattle.std.specs.List.{AllByRecursion, AllZip}
use Rattle.definitions.specs.Schema.{Schema}
use Rattle.layouts.specs.Deltas.{IsAscendingFrom}
use Rattle.segment_definitions.specs.ListBodies.{IsMember, IsOfPart, Member, Part, fresh, kept, place_of}
use Rattle.segment_definitions.specs.Segments.{IsSegment}

-- whether the indices rise from one on, each below the length of a list
abbrev pub places_rise : ℕ → ℕ → List Part → Bool
places_rise least len [] = true
places_rise least len (kept index ∷ parts) = nat_le least index && nat_lt index len && places_rise (index + 1) len parts
places_rise least len (fresh segment ∷ parts) = places_rise least len parts

-- the indices ascend strictly, and each is one of a list of this length
pub record Follow (len : ℕ) (parts : List Part) : Type 0 where
  pub ascend : IsAscendingFrom 0 (filter_map place_of parts)
  pub below : AllByRecursion (λ index. index < len) (filter_map place_of parts)

-- What a body with these parts and alive sets says of the list before: indices that follow it, segments in their layout,
-- and a flag for each of their documents.
pub record Says (schema : Schema) (before after : List Member) (parts : List Part) (sets : List (List Bool)) : Type 0 where
  pub flags : sets ≡ map (λ m. m.1) after
  pub follow : Follow (length before) parts
  pub parts_are : AllZip (IsOfPart before) parts after
  pub members : AllByRecursion (IsMember (IsSegment schema)) after
