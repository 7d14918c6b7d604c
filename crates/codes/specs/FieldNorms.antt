-- Fields with the length ids of their documents, as they are recorded and put.
use Rattle.std.specs.Prelude.{[], ◌++◌, ◌-◌, ◌==◌, ◌∷◌, List, if◌then◌else◌, length, map, replicate, ℕ}
use Rattle.definitions.specs.Lengths.{fieldnorm_to_id}

-- the ids up to a document, where those that weren't recorded are of length 0
abbrev pub padded : ℕ → List ℕ → List ℕ
padded num_docs ids = ids ++ replicate (num_docs - length ids) 0

-- the ids of each field are padded
abbrev pub all_padded : ℕ → List (ℕ × List ℕ) → List (ℕ × List ℕ)
all_padded num_docs norms = map (λ p. (p.0, padded num_docs p.1)) norms

-- a document's length is kept behind those before it, where its field keeps lengths
abbrev pub with_length : ℕ → ℕ → ℕ → List (ℕ × List ℕ) → List (ℕ × List ℕ)
with_length doc field fieldnorm norms = map (λ p. if p.0 == field then (p.0, padded doc p.1 ++ fieldnorm_to_id fieldnorm ∷ []) else p) norms
