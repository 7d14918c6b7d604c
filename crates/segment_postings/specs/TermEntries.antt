-- The entries of a term's documents.
use Rattle.std.specs.Prelude.{[], ◌+◌, ◌<◌, ◌^◌, ◌∷◌, ◌≡◌, List, drop, length, map, slice_index, slice_index_or, sum, take, ℕ}
use Rattle.std.specs.List.{AllByRecursion}
use Rattle.definitions.specs.Scoring.{DontFall}
use Rattle.layouts.specs.Positions.{position_numbers}
use Rattle.docsets.specs.Entries.{Entry, highest}
use Rattle.codes.specs.PositionPlaces.{places}

-- an entry for each document, with its count and as many of the positions
abbrev pub entries_of : List ℕ → List ℕ → List ℕ → List Entry
entries_of [] counts numbers = []
entries_of (doc ∷ docs) counts numbers = record { doc = doc; score = 0; count = slice_index counts 0; positions = places 0 (take (slice_index counts 0) numbers) ∷ [] } ∷ entries_of docs (drop 1 counts) (drop (slice_index counts 0) numbers)

-- the entries from an index on, where `offset` positions stand before all
abbrev pub entries_from : ℕ → ℕ → List ℕ → List ℕ → List ℕ → List Entry
entries_from index offset docs counts numbers = entries_of (drop index docs) (drop index counts) (drop (offset + sum (take index counts)) numbers)

-- an entry for each document, with its count and its positions
abbrev pub term_entries : List ℕ → List ℕ → List (List ℕ) → List Entry
term_entries [] counts positions = []
term_entries (doc ∷ docs) counts positions = record { doc = doc; score = 0; count = slice_index counts 0; positions = slice_index_or positions 0 [] ∷ [] } ∷ term_entries docs (drop 1 counts) (drop 1 positions)

-- positions that don't fall and are below 2 ^ 31
abbrev pub IsPlaced : List ℕ → Type 0
IsPlaced positions = DontFall positions × (highest positions < 2 ^ 31)

-- the numbers are the positions of documents, each of which has as many as its count
pub record HasPositions (counts : List ℕ) (positions : List (List ℕ)) (numbers : List ℕ) : Type 0 where
  pub counted : map length positions ≡ counts
  pub placed : AllByRecursion IsPlaced positions
  pub numbers_are : numbers ≡ position_numbers positions
