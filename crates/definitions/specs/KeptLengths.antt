-- Lengths as a segment keeps them: a length id for each document, field by field.
use Rattle.std.specs.Prelude.{List, filter, map, ℕ}
use Rattle.std.specs.List.{enumerate_from}
use Rattle.definitions.specs.Analyzers.{Analyzer}
use Rattle.definitions.specs.Schema.{Schema, keeps_length}
use Rattle.definitions.specs.Scoring.{length_id}
use Rattle.definitions.specs.Values.{Document}

-- the numbers of the fields that keep lengths, ascending
abbrev pub length_fields : Schema → List ℕ
length_fields schema = map (λ p. p.0) (filter (λ p. keeps_length p.1) (enumerate_from 0 schema))

-- the length id of each document in a field
abbrev pub length_ids : Schema → Analyzer → List Document → ℕ → List ℕ
length_ids schema analyze docs field = map (length_id schema analyze field) docs

-- each field that keeps lengths, with those of the documents
abbrev pub norms_of : Schema → Analyzer → List Document → List (ℕ × List ℕ)
norms_of schema analyze docs = map (λ field. (field, length_ids schema analyze docs field)) (length_fields schema)
