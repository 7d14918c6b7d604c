-- The steps in which a document is indexed: value after value, each by the type of its field.
use Rattle.std.specs.Prelude.{[], ◌++◌, ◌+◌, ◌∷◌, List, Option, flat_map, if◌then◌else◌, length, map, option_map, slice_get, take, ℕ}
use Rattle.std.specs.List.{range_with_len}
use Rattle.std.specs.Option.{option_map_or}
use Rattle.definitions.specs.Analyzers.{Analyzer, kept, tokens_of}
use Rattle.definitions.specs.Facets.{encoded}
use Rattle.definitions.specs.Indexing.{leaf_term}
use Rattle.definitions.specs.JsonLeaves.{leaf_text, leaves}
use Rattle.definitions.specs.Schema.{Entry, Kind, Schema, facet_kind, gap_of, is_indexed, json_kind, text_kind}
use Rattle.definitions.specs.Terms.{json_term, term_bytes, type_code, value_bytes}
use Rattle.definitions.specs.Values.{Document, Token, Value, facet}

-- the tokens of a text behind a term's first bytes, with the gap that follows them; or a whole term
pub data Step : Type 0 where
  text_step : List ℕ → ℕ → List Token → Step
  term_step : List ℕ → Step

-- a term, if there is one
abbrev pub term_steps : Option (List ℕ) → List Step
term_steps o = option_map_or (λ t. term_step t ∷ []) o []

-- a text of a text field, which may have tokens of its own
abbrev pub text_steps : Analyzer → ℕ → Entry → Value → List Step
text_steps analyze field e v = option_map_or (λ ts. text_step (term_bytes field text_kind []) (gap_of e) ts ∷ []) (tokens_of analyze e.tokenizer v) []

-- a leaf of a JSON field that is no text
abbrev pub plain_leaf_steps : ℕ → List ℕ × Value → List Step
plain_leaf_steps field l = term_steps (option_map (λ p. p.0) (leaf_term field l))

-- a text at a path of a JSON field
abbrev pub path_step : ℕ → List ℕ → List Token → Step
path_step field path ts = text_step (json_term field path (type_code text_kind)) 1 ts

-- a leaf of a JSON field
abbrev pub leaf_steps : Analyzer → ℕ → List ℕ → List ℕ × Value → List Step
leaf_steps analyze field tokenizer l = option_map_or (λ s. path_step field l.0 (kept (analyze tokenizer s)) ∷ []) (leaf_text l.1) (plain_leaf_steps field l)

-- the leaves of a JSON field
abbrev pub leaves_steps : Analyzer → ℕ → List ℕ → List (List ℕ × Value) → List Step
leaves_steps analyze field tokenizer ls = flat_map (leaf_steps analyze field tokenizer) ls

-- a value of eight bytes at a path of a JSON field
abbrev pub fast_steps : ℕ → List ℕ → Kind → Value → List Step
fast_steps field path kind v = term_steps (option_map (λ payload. json_term field path (type_code kind ++ payload)) (value_bytes kind v))

-- a facet: all prefixes of its steps, the empty one included
abbrev pub facet_steps : ℕ → Value → List Step
facet_steps field (facet steps) = map (λ n. term_step (term_bytes field facet_kind (encoded (take n steps)))) (range_with_len 0 (length steps + 1))
facet_steps field _ = []

-- a value that is one term
abbrev pub plain_steps : Kind → ℕ → Value → List Step
plain_steps kind field v = term_steps (option_map (term_bytes field kind) (value_bytes kind v))

-- a value of a field of that kind
abbrev pub kind_steps : Kind → Analyzer → ℕ → Entry → Value → List Step
kind_steps text_kind analyze field e v = text_steps analyze field e v
kind_steps json_kind analyze field e v = leaves_steps analyze field e.tokenizer (leaves e.expand_dots [] v)
kind_steps facet_kind analyze field e v = facet_steps field v
kind_steps kind analyze field e v = plain_steps kind field v

-- a value of a field, where this is indexed
abbrev pub entry_steps : Analyzer → ℕ → Entry → Value → List Step
entry_steps analyze field e v = if is_indexed e then kind_steps e.kind analyze field e v else []

-- a value, where the schema has its field
abbrev pub value_steps : Schema → Analyzer → ℕ × Value → List Step
value_steps schema analyze p = option_map_or (λ e. entry_steps analyze p.0 e p.1) (slice_get schema p.0) []

-- the values of a document, in order
abbrev pub steps_of : Schema → Analyzer → Document → List Step
steps_of schema analyze doc = flat_map (value_steps schema analyze) doc
