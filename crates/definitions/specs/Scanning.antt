-- A plain scan over a list of documents: what every search must answer.
use Rattle.std.specs.Prelude.{[], ◌∷◌, List, None, Option, Some, count_by, filter_map, if◌then◌else◌, nat_le, take, ℕ}
use Rattle.definitions.specs.Analyzers.{Analyzer}
use Rattle.definitions.specs.Matching.{matches}
use Rattle.definitions.specs.Query.{Query}
use Rattle.definitions.specs.Schema.{Schema}
use Rattle.definitions.specs.Scoring.{Similarity, score}
use Rattle.definitions.specs.Stored.{Named, stored_values}
use Rattle.definitions.specs.Values.{Document}

-- an element at its place among elements with falling keys, before those with its own key
abbrev pub insert_ranked : {X : Type 0} → (X → ℕ) → X → List X → List X
insert_ranked key x [] = x ∷ []
insert_ranked key x (y ∷ ys) = let rest = insert_ranked key x ys in if nat_le (key y) (key x) then x ∷ y ∷ ys else y ∷ rest

-- by their keys downwards; of equal keys the earlier first
abbrev pub ranked : {X : Type 0} → (X → ℕ) → List X → List X
ranked key [] = []
ranked key (x ∷ xs) = insert_ranked key x (ranked key xs)

-- a score and the stored values
abbrev pub Hit : Type 0
Hit = ℕ × Named

-- what a document alone gives, if it matches
abbrev pub hit_of : Schema → Analyzer → Similarity → Query → Document → Option Hit
hit_of schema analyze sim q doc = if matches schema analyze doc q then Some (score schema analyze sim doc 1 q, stored_values schema doc) else None

-- the documents that match, in the order of the list
abbrev pub found : Schema → Analyzer → Similarity → List Document → Query → List Hit
found schema analyze sim docs q = filter_map (hit_of schema analyze sim q) docs

-- the best k by score, then by place
abbrev pub scan : Schema → Analyzer → Similarity → List Document → Query → ℕ → List Hit
scan schema analyze sim docs q k = take k (ranked (λ h. h.0) (found schema analyze sim docs q))

-- how many match
abbrev pub scan_count : Schema → Analyzer → List Document → Query → ℕ
scan_count schema analyze docs q = count_by (λ doc. matches schema analyze doc q) docs
