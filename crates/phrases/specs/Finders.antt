-- Finders of places: the room that their buffers have, and what a search for places takes and leaves.
use Rattle.std.specs.Prelude.{◌<◌, ◌≡◌, ◌≤◌, List, length, vec_capacity, ℕ}
use Rattle.definitions.specs.Postings.{terminated}
use Rattle.docsets.specs.Entries.{Entry, first, first_positions}
use Rattle.phrases.specs.PhraseEntries.{AreColumns, longest}
use Rattle.phrases.specs.Places.{places_of}
use Rattle.phrases.specs.declared.place_finder.PlaceFinder.{PlaceFinder}

-- there is room for columns of `n` positions, and for their costs where there is a slop
pub record HasRoom (f : PlaceFinder) (n : ℕ) : Type 0 where
  pub places : n ≤ vec_capacity f.places
  pub positions : n ≤ vec_capacity f.positions
  pub costs : 0 < f.slop → n ≤ vec_capacity f.costs
  pub further_costs : 0 < f.slop → n ≤ vec_capacity f.further_costs

-- the terms stand on a document with columns, and the finder has room for each of them
pub record CanFind (f : PlaceFinder) (es : List Entry) : Type 0 where
  pub on : first es < terminated
  pub has_terms : 0 < length (first_positions es)
  pub columns : AreColumns (first_positions es)
  pub room : HasRoom f (longest (first_positions es))

-- the finder has the places of the terms' document within its slop and no less room; the terms stand where they stood
pub record HasFound (was : PlaceFinder) (es : List Entry) (now : PlaceFinder) (left : List Entry) : Type 0 where
  pub same : left ≡ es
  pub slop : now.slop ≡ was.slop
  pub places : now.places.items ≡ places_of was.slop (first_positions es)
  pub room : (n : ℕ) → HasRoom was n → HasRoom now n
