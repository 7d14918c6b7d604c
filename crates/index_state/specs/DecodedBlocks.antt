-- How many blocks of postings a search for one term decodes.
use Rattle.std.specs.Prelude.{◌≡◌, List, min, ℕ}
use Rattle.std.specs.List.{AllZip}
use Rattle.definitions.specs.Alive.{Segment, live_groups}
use Rattle.definitions.specs.Analyzers.{Analyzer}
use Rattle.definitions.specs.Calls as calls
use Rattle.definitions.specs.Merging.{documents_in, flags_of}
use Rattle.definitions.specs.Schema.{IndexRecordOption, Schema}
use Rattle.definitions.specs.Values.{Document}
use Rattle.segment_definitions.specs.ListBodies.{Member}
use Rattle.segment_definitions.specs.Segments.{IsSegmentOf}
use Rattle.segment_search.specs.Counted.{blocks_decoded, greatest_count, nothing_kept}

-- a segment's bytes are those of the documents of these rows, and its flags are theirs
abbrev pub HasRows : Schema → Analyzer → Segment → Member → Type 0
HasRows schema analyze rows m = IsSegmentOf schema analyze (documents_in rows) m.0 × (flags_of rows ≡ m.1)

-- The number of blocks that are decoded for the best k of a term: what the documents of the segments come to, of which
-- these groups are alive. Deleted documents are in the blocks too.
pub record AreDecoded (c : calls.Configuration) (groups : List (List Document)) (segments : List Member) (t : List ℕ)
    (option : IndexRecordOption) (k n : ℕ) : Type 0 where
  pub rows : List Segment
  pub rows_are : AllZip (HasRows c.schema c.analyze) rows segments
  pub living : groups ≡ live_groups rows
  pub counted : n ≡ min greatest_count (blocks_decoded c.schema c.analyze c.similarity t option (nothing_kept k) 0 rows)
