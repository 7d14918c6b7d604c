-- New segments, where they stand in the body of a record that is laid out.
use Rattle.std.specs.Prelude.{◌++◌, ◌+◌, ◌≡◌, ◌≤◌, List, flat_map, length, map, ℕ}
use Rattle.std.specs.List.{AllByRecursion}
use Rattle.definitions.specs.Analyzers.{Analyzer}
use Rattle.definitions.specs.Schema.{Schema}
use Rattle.definitions.specs.Values.{Document}
use Rattle.index_file.specs.FreshPlaces.{bytes_at, framed_at}
use Rattle.segment_definitions.specs.ListBodies.{fresh, part_bytes}
use Rattle.segment_definitions.specs.Segments.{IsSegment, IsSegmentOf}
use Rattle.index_state.specs.declared.new_segments.NewSegment.{NewSegment}
use Rattle.index_state.specs.declared.pending_segments.FullSegment.{FullSegment}

-- the bytes of a new segment in a body
abbrev pub segment_at : List ℕ → NewSegment → List ℕ
segment_at body new = bytes_at body new.range

-- these bytes, and how many documents it has
abbrev pub told_at : List ℕ → NewSegment → List ℕ × ℕ
told_at body new = (segment_at body new, new.num_docs)

-- those of a full segment
abbrev pub told_of : FullSegment → List ℕ × ℕ
told_of segment = (segment.bytes, segment.num_docs)

-- they stand within a body
abbrev pub AreWithin : List ℕ → List NewSegment → Type 0
AreWithin body news = AllByRecursion (λ (new : NewSegment). (new.range.start ≤ new.range.end) × (new.range.end ≤ length body)) news

-- they are parts of a body, behind what stood there
pub record ArePut (before body : List ℕ) (news : List NewSegment) : Type 0 where
  pub within : AreWithin body news
  pub put : body ≡ before ++ flat_map part_bytes (map fresh (map (segment_at body) news))

-- each is a segment of the number of documents that is told
abbrev pub AreKnown : Schema → List ℕ → List NewSegment → Type 0
AreKnown schema body news = AllByRecursion (λ (new : NewSegment). IsSegment schema new.num_docs (segment_at body new)) news

-- a new segment is of these documents, and tells how many they are
abbrev pub IsNew : Schema → Analyzer → List ℕ → List Document → NewSegment → Type 0
IsNew schema analyze body docs new = IsSegmentOf schema analyze docs (segment_at body new) × (new.num_docs ≡ length docs)

-- ---- in the frame of the body

-- its bytes there
abbrev pub segment_in : List ℕ → NewSegment → List ℕ
segment_in frame new = framed_at frame new.range

-- it stands within a frame, where it is a segment of the number of documents that is told
abbrev pub IsKnownIn : Schema → List ℕ → NewSegment → Type 0
IsKnownIn schema frame new = (new.range.start ≤ new.range.end) × (8 + new.range.end ≤ length frame)
    × IsSegment schema new.num_docs (segment_in frame new)
