-- What a search answers over any segments, whether documents explain them or not: the best of some living documents, each
-- once, with what is stored of it.
use Rattle.segment.specs.declared.segment.Segment as code
use Rattle.std.specs.Prelude.{[], ◌+◌, ◌++◌, ◌∷◌, ◌≡◌, Bool, List, Some, length, map, pos, slice_get, ℕ, ℤ}
use Rattle.std.specs.List.{AllByRecursion, AllZip}
use Rattle.best_k.specs.Kept.{Best, ScoredAddress, best_by, living_in, score_of}
use Rattle.definitions.specs.Schema.{Schema}
use Rattle.definitions.specs.ScoredLists.{AreScoredFrom, ScoredList}
use Rattle.definitions.specs.Stored.{Named, stored_values}
use Rattle.definitions.specs.Values.{Document}
use Rattle.layouts.specs.Stores.{Block}
use Rattle.segment.specs.Opened.{blocks_of}
use Rattle.segment.specs.SlotDocuments.{HoldsDocument}

-- of the documents that are listed of each segment, those that live, in order
abbrev pub living_from : ℕ → List (List Bool) → List ScoredList → List ScoredAddress
living_from ord [] lists = []
living_from ord (flags ∷ sets) [] = []
living_from ord (flags ∷ sets) (ps ∷ lists) = living_in ord flags ps ++ living_from (ord + 1) sets lists

-- the best, `limit` at most, of some living documents: of each segment some that ascend, with scores in range
pub record AreBest (sets : List (List Bool)) (limit : ℕ) (found : List ScoredAddress) : Type 0 where
  pub lists : List ScoredList
  pub counted : length lists ≡ length sets
  pub ascend : AllByRecursion (AreScoredFrom 0) lists
  pub best : found ≡ best_by score_of limit (living_from 0 sets lists)

-- the best with some more documents of the segment that was entered, which ascend
pub record IsBestWithMore (old new : Best) : Type 0 where
  pub pairs : ScoredList
  pub ascend : AreScoredFrom 0 pairs
  pub best : new.hits ≡ best_by score_of old.wanted (old.hits ++ living_in old.segment old.alive pairs)

-- the score of the document that was found is shown, and what is stored of it: its slot in the segment's store is read
pub record Shows (schema : Schema) (segments : List code.Segment) (found : ScoredAddress) (hit : ℤ × Named) : Type 0 where
  pub blocks : List Block
  pub there : slice_get (map blocks_of segments) found.1 ≡ Some blocks
  pub read : Document
  pub holds : HoldsDocument schema blocks found.2 read
  pub shown : hit ≡ (pos found.0, stored_values schema read)

-- what hits of segments with these alive sets show
pub record AreHits (schema : Schema) (segments : List code.Segment) (sets : List (List Bool)) (limit : ℕ)
    (hits : List (ℤ × Named)) : Type 0 where
  pub found : List ScoredAddress
  pub best : AreBest sets limit found
  pub shown : AllZip (Shows schema segments) found hits
