-- The lengths of a document's fields, as they are counted value by value.
use Rattle.std.specs.Prelude.{[], ◌++◌, ◌∷◌, ◌≡◌, List, length, map, min, slice_get, slice_index_or, true, ℕ}
use Rattle.std.specs.Option.{option_map_or}
use Rattle.definitions.specs.Analyzers.{Analyzer, tokens_of}
use Rattle.definitions.specs.Lengths.{fieldnorm_to_id, len_of}
use Rattle.definitions.specs.Schema.{Entry, Kind, Schema, field_has, is_indexed, text_kind}
use Rattle.definitions.specs.Values.{Document, Value}

-- a length that passes 32 bits is 4294967295: the ids of both are the greatest
abbrev pub cut : ℕ → ℕ
cut n = min 4294967295 n

-- how many tokens a text has
abbrev pub num_tokens : Analyzer → List ℕ → Value → ℕ
num_tokens analyze tokenizer v = option_map_or length (tokens_of analyze tokenizer v) 0

-- what a value adds to the length of a field of its kind
abbrev pub value_len : Kind → Analyzer → List ℕ → Value → ℕ
value_len text_kind analyze tokenizer v = num_tokens analyze tokenizer v
value_len _ analyze tokenizer v = 1

-- and to that of a field of a schema
abbrev pub field_value_len : Schema → Analyzer → ℕ × Value → ℕ
field_value_len schema analyze p = option_map_or (λ (e : Entry). value_len e.kind analyze e.tokenizer p.1) (slice_get schema p.0) 0

-- a number for each field of the schema: the lengths of those that are indexed, in one document
pub record AreLengths (schema : Schema) (analyze : Analyzer) (doc : Document) (lengths : List ℕ) : Type 0 where
  pub count : length lengths ≡ length schema
  pub each_field : (field : ℕ) → field_has is_indexed schema field ≡ true → slice_index_or lengths field 0 ≡ cut (len_of schema analyze field doc)

-- the id of one document more behind those of each field
abbrev pub with_ids : List ℕ → List (ℕ × List ℕ) → List (ℕ × List ℕ)
with_ids lengths norms = map (λ p. (p.0, p.1 ++ fieldnorm_to_id (slice_index_or lengths p.0 0) ∷ [])) norms
