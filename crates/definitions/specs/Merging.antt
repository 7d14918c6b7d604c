-- Merging: what the living documents of several segments have, by what each segment has.
use Rattle.std.specs.Prelude.{[], ◌++◌, ◌+◌, ◌∷◌, Bool, List, false, filter, if◌then◌else◌, length, map, suc, zero, ℕ}
use Rattle.std.specs.List.{flat_map, items_where_true, slice_index_or}
use Rattle.definitions.specs.Alive.{Segment}
use Rattle.definitions.specs.Postings.{Posting}
use Rattle.definitions.specs.Values.{Document}

-- a segment's documents, dead ones too
abbrev pub documents_in : Segment → List Document
documents_in rows = map (λ row. row.0) rows

-- whether each of them is alive
abbrev pub flags_of : Segment → List Bool
flags_of rows = map (λ row. row.1) rows

-- how many living documents stand before a place: the new number of the document there
abbrev pub rank : List Bool → ℕ → ℕ
rank flags zero = 0
rank [] (suc place) = 0
rank (flag ∷ flags) (suc place) = let before = rank flags place in if flag then suc before else before

-- how many are alive
abbrev pub num_living : List Bool → ℕ
num_living flags = rank flags (length flags)

-- a posting with another document
abbrev pub at_document : ℕ → Posting → Posting
at_document doc p = record { doc = doc; count = p.count; positions = p.positions }

-- the postings of living documents, by their new numbers from one on
abbrev pub renumbered : ℕ → List Bool → List Posting → List Posting
renumbered base flags ps = map (λ (p : Posting). at_document (base + rank flags p.doc) p) (filter (λ (p : Posting). slice_index_or flags p.doc false) ps)

-- the postings of a term in several segments, each by its flags, numbered one after the other
abbrev pub merged_postings : ℕ → List (List Bool × List Posting) → List Posting
merged_postings base [] = []
merged_postings base (m ∷ ms) = renumbered base m.0 m.1 ++ merged_postings (base + num_living m.0) ms

-- of several segments, each by its flags and what its documents have, what the living have
abbrev pub merged_rows : {X : Type 0} → List (List Bool × List X) → List X
merged_rows ms = flat_map (λ m. items_where_true m.0 m.1) ms
