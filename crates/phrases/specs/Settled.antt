-- Finders that have the places of the document on which terms stand.
use Rattle.std.specs.Prelude.{◌<◌, ◌≡◌, List, length}
use Rattle.definitions.specs.Postings.{terminated}
use Rattle.docsets.specs.Entries.{Entry, first, first_positions}
use Rattle.phrases.specs.Places.{places_of}
use Rattle.phrases.specs.declared.place_finder.PlaceFinder.{PlaceFinder}

-- unless the terms are at their end, the places are those of their document, and there are some
pub record IsSettled (f : PlaceFinder) (es : List Entry) : Type 0 where
  pub places : first es < terminated → f.places.items ≡ places_of f.slop (first_positions es)
  pub has_places : first es < terminated → 0 < length f.places.items
