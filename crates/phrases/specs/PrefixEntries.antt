-- Entries of phrase prefixes: documents where terms follow a phrase.
use Rattle.std.specs.Prelude.{[], ◌+◌, ◌∷◌, List, filter, if◌then◌else◌, length, max, nat_lt, sum_by, ℕ}
use Rattle.docsets.specs.Entries.{Entry, most_positions, single}
use Rattle.docsets.specs.Members.{entries_at}
use Rattle.phrases.specs.Places.{has, places_of}

-- at how many places a term stands, moved on by some places
abbrev pub continued : ℕ → List ℕ → List ℕ → ℕ
continued moved places positions = length (filter (λ place. has positions (place + moved)) places)

-- how often a phrase goes on with any of several terms
abbrev pub continued_by : ℕ → List ℕ → List Entry → ℕ
continued_by moved places suffixes = sum_by (λ s. continued moved places (single s.positions)) suffixes

-- the documents at whose places some of the suffixes stand, moved on, with how often they do
abbrev pub prefixed : ℕ → List (List Entry) → List Entry → List Entry
prefixed moved ess [] = []
prefixed moved ess (e ∷ es) = let n = continued_by moved (single e.positions) (entries_at e.doc ess) in let rest = prefixed moved ess es in if nat_lt 0 n then record e { count = n } ∷ rest else rest

-- the documents of a term that is a phrase by itself, with its places, their number and one score
abbrev pub one_term : ℕ → List Entry → List Entry
one_term score [] = []
one_term score (e ∷ es) = let places = places_of 0 (single e.positions ∷ []) in record { doc = e.doc; score = score; count = length places; positions = places ∷ [] } ∷ one_term score es

-- how often suffixes follow an entry
abbrev pub follows : ℕ → List (List Entry) → Entry → ℕ
follows moved ess e = continued_by moved (single e.positions) (entries_at e.doc ess)

-- an entry with another count
abbrev pub counted : Entry → ℕ → Entry
counted e n = record e { count = n }

-- the greatest number of positions that an entry of some list has
abbrev pub most_suffix_positions : List (List Entry) → ℕ
most_suffix_positions [] = 0
most_suffix_positions (es ∷ ess) = max (most_positions es) (most_suffix_positions ess)
