-- Where new segments stand in the body of a record, and in its frame.
use Rattle.std.specs.Prelude.{◌++◌, ◌+◌, ◌∷◌, ◌≡◌, ◌≤◌, [], List, length, slice_range, ℕ}
use Rattle.definitions.specs.NumberCodes.{u64_bytes}
use Rattle.index_file.specs.declared.fresh_place.FreshPlace.{FreshPlace}

-- the bytes of a body at a range
abbrev pub bytes_at : List ℕ → FreshPlace → List ℕ
bytes_at body range = slice_range body range.start range.end

-- the bytes of a frame at a range of its body, which stands behind eight bytes of length
abbrev pub framed_at : List ℕ → FreshPlace → List ℕ
framed_at frame range = slice_range frame (8 + range.start) (8 + range.end)

-- a segment stands at a range of a body
pub record StandsAt (body segment : List ℕ) (range : FreshPlace) : Type 0 where
  pub forward : range.start ≤ range.end
  pub within : range.end ≤ length body
  pub bytes_are : bytes_at body range ≡ segment

-- a body with the code of a new segment, and room for its length
abbrev pub begun_fresh : List ℕ → List ℕ
begun_fresh body = body ++ 1 ∷ u64_bytes 0
