-- Blocks of postings, and what no score in a block is above.
use Rattle.std.specs.Prelude.{[], ◌&&◌, ◌*◌, ◌==◌, ◌∷◌, List, None, Option, Some, filter, if◌then◌else◌, length, map, min, nat_le, slice_index, ℕ}
use Rattle.definitions.specs.Analyzers.{Analyzer}
use Rattle.definitions.specs.Recorded.{count_of, holds}
use Rattle.definitions.specs.Schema.{Schema}
use Rattle.definitions.specs.Scoring.{greatest_of, length_id, part}
use Rattle.definitions.specs.State.{pieces}
use Rattle.definitions.specs.Terms.{field_of}
use Rattle.definitions.specs.Values.{Document}

-- how many documents a full block has
abbrev pub block_len : ℕ
block_len = 128

-- the greatest count that a bound can hold
abbrev pub max_bound_count : ℕ
max_bound_count = 254

-- the least number, and 0 of none
abbrev pub least_of : List ℕ → ℕ
least_of [] = 0
least_of (n ∷ []) = n
least_of (n ∷ m ∷ ns) = min n (least_of (m ∷ ns))

-- the length id and the count of a document
abbrev pub id_and_count : Schema → Analyzer → List ℕ → Document → ℕ × ℕ
id_and_count schema analyze t doc = (length_id schema analyze (field_of t) doc, count_of schema analyze t doc)

-- the length id and the count of each document that has the term
abbrev pub ids_and_counts : Schema → Analyzer → List ℕ → List Document → List (ℕ × ℕ)
ids_and_counts schema analyze t docs = map (id_and_count schema analyze t) (filter (holds schema analyze t) docs)

-- the documents that have a term, 128 in a block, by length ids and counts
abbrev pub blocks : Schema → Analyzer → List ℕ → List Document → List (List (ℕ × ℕ))
blocks schema analyze t docs = pieces block_len (ids_and_counts schema analyze t docs)

-- the documents that have the term, in blocks
abbrev pub document_blocks : Schema → Analyzer → List ℕ → List Document → List (List Document)
document_blocks schema analyze t docs = pieces block_len (filter (holds schema analyze t) docs)

-- of a full block the least length id and the greatest count; none of a rest, or where that count is too great
abbrev pub bound_of : List (ℕ × ℕ) → Option (ℕ × ℕ)
bound_of ps = if (length ps == block_len) && nat_le (greatest_of (map (λ p. p.1) ps)) max_bound_count then Some (least_of (map (λ p. p.0) ps), greatest_of (map (λ p. p.1) ps)) else None

-- the score of a bound, and without one the weight
abbrev pub bound_score : ℕ → ℕ → List ℕ → Option (ℕ × ℕ) → ℕ
bound_score b weight norms None = b * weight
bound_score b weight norms (Some (id, most)) = b * part weight most (slice_index norms id)
