-- What is recorded, occurrence by occurrence, and the postings that it gives.
use Rattle.std.specs.Prelude.{[], ◌^◌, ◌≡◌, ◌≤◌, ◌∷◌, Bool, List, bytes_eq, false, filter, if◌then◌else◌, length, map, nat_eq, true, ℕ}
use Rattle.definitions.specs.Postings.{Posting}
use Rattle.definitions.specs.Recorded.{ascending}
use Rattle.definitions.specs.Schema.{IndexRecordOption, has_freq, has_positions}

-- a term that stands in a document, by all its bytes, and where
pub record Occurrence : Type 0 where
  pub doc : ℕ
  pub term : List ℕ
  pub position : ℕ

-- the documents and positions of a term, in the order in which they were recorded
abbrev pub places_of : List ℕ → List Occurrence → List (ℕ × ℕ)
places_of t os = map (λ o. (o.doc, o.position)) (filter (λ o. bytes_eq o.term t) os)

-- an occurrence before others that are grouped by document
abbrev pub grouped : ℕ × ℕ → List (ℕ × List ℕ) → List (ℕ × List ℕ)
grouped p [] = (p.0, p.1 ∷ []) ∷ []
grouped p (g ∷ gs) = if nat_eq p.0 g.0 then (g.0, p.1 ∷ g.1) ∷ gs else (p.0, p.1 ∷ []) ∷ g ∷ gs

-- occurrences in a row that are of one document, with this document
abbrev pub by_document : List (ℕ × ℕ) → List (ℕ × List ℕ)
by_document [] = []
by_document (p ∷ ps) = grouped p (by_document ps)

-- the documents of occurrences
abbrev pub docs_of : List (ℕ × ℕ) → List ℕ
docs_of ps = map (λ g. g.0) (by_document ps)

-- the documents of occurrences, and how many occurrences each has
abbrev pub counts_of : List (ℕ × ℕ) → List (ℕ × ℕ)
counts_of ps = map (λ g. (g.0, length g.1)) (by_document ps)

-- how many occurrences the last document has
abbrev pub last_count : List (ℕ × List ℕ) → ℕ
last_count [] = 0
last_count (g ∷ []) = length g.1
last_count (g ∷ h ∷ gs) = last_count (h ∷ gs)

-- whether the last of these documents is that one
abbrev pub ends_in : ℕ → List ℕ → Bool
ends_in doc [] = false
ends_in doc (d ∷ []) = nat_eq d doc
ends_in doc (d ∷ e ∷ ds) = ends_in doc (e ∷ ds)

-- the last of these occurrences' documents is that one, and its count passes 32 bits
abbrev pub PassesCount : ℕ → List (ℕ × ℕ) → Type 0
PassesCount doc ps = (ends_in doc (docs_of ps) ≡ true) × (2 ^ 32 ≤ last_count (by_document ps))

-- what is recorded of the occurrences of one document
abbrev pub posting_in : IndexRecordOption → ℕ × List ℕ → Posting
posting_in option g = record { doc = g.0; count = if has_freq option then length g.1 else 1; positions = if has_positions option then ascending g.1 else [] }

-- the postings of these occurrences
abbrev pub postings_at : IndexRecordOption → List (ℕ × ℕ) → List Posting
postings_at option ps = map (posting_in option) (by_document ps)

-- the postings of a term
abbrev pub postings_in : IndexRecordOption → List ℕ → List Occurrence → List Posting
postings_in option t os = postings_at option (places_of t os)
