-- Entries of phrases: documents with the places where a phrase stands.
use Rattle.std.specs.Prelude.{[], ⊤, ◌+◌, ◌-◌, ◌<◌, ◌∷◌, List, if◌then◌else◌, length, map, max, nat_lt, ℕ}
use Rattle.docsets.specs.Entries.{Entry, highest, single}
use Rattle.definitions.specs.Scoring.{greatest_of}
use Rattle.intersections.specs.Meetings.{meeting}
use Rattle.phrases.specs.Places.{Ascends, places_of}

-- the documents of a term without scores, each position plus an offset
abbrev pub placed : ℕ → List Entry → List Entry
placed offset [] = []
placed offset (e ∷ es) = record { doc = e.doc; score = 0; count = e.count; positions = map (λ p. p + offset) (single e.positions) ∷ [] } ∷ placed offset es

-- the documents whose columns reach places within the slop, with these, their number and the score that it earns there
abbrev pub phrased : (ℕ → ℕ → ℕ) → ℕ → List Entry → List Entry
phrased score slop [] = []
phrased score slop (e ∷ es) = let places = places_of slop e.positions in let rest = phrased score slop es in if nat_lt 0 (length places) then record { doc = e.doc; score = score e.doc (length places); count = length places; positions = places ∷ [] } ∷ rest else rest

-- the documents that all terms have, each term's positions plus the greatest offset less its own
abbrev pub adjusted_terms : List (ℕ × List Entry) → List Entry
adjusted_terms terms = meeting (map (λ t. placed (greatest_of (map (λ u. u.0) terms) - t.0) t.1) terms)

-- ---- columns

-- columns ascend below the greatest number of 32 bits
abbrev pub AreColumns : List (List ℕ) → Type 0
AreColumns [] = ⊤
AreColumns (ps ∷ columns) = Ascends 0 ps × (highest ps < 4294967295) × AreColumns columns

-- each entry has such columns, one at least
abbrev pub HaveColumns : List Entry → Type 0
HaveColumns [] = ⊤
HaveColumns (e ∷ es) = (0 < length e.positions) × AreColumns e.positions × HaveColumns es

-- the greatest length of a column
abbrev pub longest : List (List ℕ) → ℕ
longest [] = 0
longest (ps ∷ columns) = max (length ps) (longest columns)

-- the longest column of all entries
abbrev pub longest_column : List Entry → ℕ
longest_column [] = 0
longest_column (e ∷ es) = max (longest e.positions) (longest_column es)
