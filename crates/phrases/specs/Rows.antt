-- Rows of a window: documents of a phrase, each with how often suffixes follow it.
use Rattle.std.specs.Prelude.{[], ⊤, ◌+◌, ◌<◌, ◌≤◌, ◌∷◌, List, length, map, max, slice_range, ℕ}
use Rattle.docsets.specs.Entries.{Entry}
use Rattle.definitions.specs.Postings.{terminated}
use Rattle.docsets.specs.Members.{entries_at, entries_of}
use Rattle.phrases.specs.Places.{Ascends}
use Rattle.phrases.specs.PrefixEntries.{continued_by}
use Rattle.phrases.specs.declared.row.Row.{Row}

-- the places of a row among those of all rows
abbrev pub places_in : List ℕ → Row → List ℕ
places_in places r = slice_range places r.begin (r.begin + r.num_places)

-- a row has places among those of all rows, and not too many
pub record IsRow (places : List ℕ) (r : Row) : Type 0 where
  pub small : r.doc < terminated
  pub within : r.begin + r.num_places ≤ length places
  pub num_places_fit : r.num_places ≤ 4294967295
  pub ascends : Ascends 0 (places_in places r)

-- each of several rows does
abbrev pub AreRows : List ℕ → List Row → Type 0
AreRows places [] = ⊤
AreRows places (r ∷ rows) = IsRow places r × AreRows places rows

-- a row as an entry of a phrase
abbrev pub row_entry : List ℕ → Row → Entry
row_entry places r = record { doc = r.doc; score = r.score; count = r.count; positions = places_in places r ∷ [] }

abbrev pub row_entries : List ℕ → List Row → List Entry
row_entries places rows = map (row_entry places) rows

-- an entry that tells no count
abbrev pub uncounted : Entry → Entry
uncounted e = record e { count = 0 }

-- the documents of rows
abbrev pub docs_of : List Row → List ℕ
docs_of rows = map (λ r. r.doc) rows

-- the first document behind all of several
abbrev pub end_of : List ℕ → ℕ
end_of [] = 0
end_of (d ∷ ds) = max (d + 1) (end_of ds)

-- the greatest count of a row
abbrev pub most_count : List Row → ℕ
most_count [] = 0
most_count (r ∷ rows) = max r.count (most_count rows)

-- a row with `n` suffixes more
abbrev pub counted_on : ℕ → Row → Row
counted_on n r = record r { count = r.count + n }

-- a row with how often a suffix follows it
abbrev pub added_one : ℕ → List ℕ → List Entry → Row → Row
added_one moved places es r = counted_on (continued_by moved (places_in places r) (entries_of r.doc es)) r

-- a row with how often several suffixes do
abbrev pub added : ℕ → List ℕ → List (List Entry) → Row → Row
added moved places ess r = counted_on (continued_by moved (places_in places r) (entries_at r.doc ess)) r
