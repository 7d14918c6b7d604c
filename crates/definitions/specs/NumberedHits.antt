-- Hits with the numbers of their documents, and how hits stand.
use Rattle.std.specs.Prelude.{[], ⊤, ◌<◌, ◌∷◌, ◌≡◌, ◌≤◌, List, Option, Some, filter_map, option_map, slice_get, take, ℕ}
use Rattle.std.specs.List.{AllByRecursion, enumerate_from}
use Rattle.definitions.specs.Analyzers.{Analyzer}
use Rattle.definitions.specs.Query.{Query}
use Rattle.definitions.specs.Scanning.{Hit, hit_of, ranked, scan}
use Rattle.definitions.specs.Schema.{Schema}
use Rattle.definitions.specs.Scoring.{Similarity}
use Rattle.definitions.specs.Stored.{Named}
use Rattle.definitions.specs.Values.{Document}

-- no element's key is below that of an element after it
abbrev pub NeverRises : {X : Type 0} → (X → ℕ) → List X → Type 0
NeverRises key [] = ⊤
NeverRises key (x ∷ xs) = AllByRecursion (λ y. key y ≤ key x) xs × NeverRises key xs

-- of two elements with one key, the earlier stands at the smaller place
abbrev pub StandInOrder : {X : Type 0} → (X → ℕ) → (X → ℕ) → List X → Type 0
StandInOrder key place [] = ⊤
StandInOrder key place (x ∷ xs) = AllByRecursion (λ y. key y ≡ key x → place x < place y) xs × StandInOrder key place xs

-- a score, and the place of the document beside its stored values
abbrev pub PlacedHit : Type 0
PlacedHit = ℕ × (ℕ × Named)

-- what a document gives, with its place
abbrev pub placed_hit : Schema → Analyzer → Similarity → Query → ℕ × Document → Option PlacedHit
placed_hit schema analyze sim q (place, doc) = option_map (λ h. (h.0, (place, h.1))) (hit_of schema analyze sim q doc)

-- the hits of the documents that match, numbered from 0
abbrev pub placed_found : Schema → Analyzer → Similarity → List Document → Query → List PlacedHit
placed_found schema analyze sim docs q = filter_map (placed_hit schema analyze sim q) (enumerate_from 0 docs)

-- the scan that says of each hit at which place its document stands
abbrev pub placed_scan : Schema → Analyzer → Similarity → List Document → Query → ℕ → List PlacedHit
placed_scan schema analyze sim docs q k = take k (ranked (λ h. h.0) (placed_found schema analyze sim docs q))

-- where the document stands
abbrev pub place_of : PlacedHit → ℕ
place_of h = h.1.0

-- the hit alone
abbrev pub without_place : PlacedHit → Hit
without_place h = (h.0, h.1.1)

-- whether a document of the list gives this hit by itself
abbrev pub IsOfOneDocument : Schema → Analyzer → Similarity → List Document → Query → Hit → Type 0
IsOfOneDocument schema analyze sim docs q h = (place : ℕ) × (doc : Document) × (slice_get docs place ≡ Some doc) × (scan schema analyze sim (doc ∷ []) q 1 ≡ h ∷ [])

-- whether the document at the hit's place gives it by itself
abbrev pub IsOfItsDocument : Schema → Analyzer → Similarity → List Document → Query → PlacedHit → Type 0
IsOfItsDocument schema analyze sim docs q h = (doc : Document) × (slice_get docs (place_of h) ≡ Some doc) × (scan schema analyze sim (doc ∷ []) q 1 ≡ without_place h ∷ [])
