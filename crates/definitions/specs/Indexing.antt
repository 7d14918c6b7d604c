-- The terms of a document, each with the position at which it stands.
use Rattle.std.specs.Prelude.{[], ◌++◌, ◌+◌, List, None, Option, filter_map, flat_map, if◌then◌else◌, length, map, option_map, take, ℕ}
use Rattle.std.specs.List.{enumerate_from, range_with_len}
use Rattle.definitions.specs.Analyzers.{Analyzer, kept, tokens_of}
use Rattle.definitions.specs.Facets.{encoded}
use Rattle.definitions.specs.JsonLeaves.{is_text_leaf, leaves, text_paths, texts_at}
use Rattle.definitions.specs.Places.{places}
use Rattle.definitions.specs.Schema.{Entry, Kind, Schema, facet_kind, gap_of, is_indexed, json_kind, text_kind}
use Rattle.definitions.specs.Terms.{json_term, leaf_bytes, term_bytes, type_code, value_bytes}
use Rattle.definitions.specs.Values.{Document, Value, facet, values_of}

-- a term and its position
abbrev pub Placed : Type 0
Placed = List ℕ × ℕ

-- the values' tokens, one after the other
abbrev pub text_terms : Analyzer → ℕ → Entry → List Value → List Placed
text_terms analyze field e values = map (λ p. (term_bytes field text_kind p.0, p.1)) (places (gap_of e) (filter_map (tokens_of analyze e.tokenizer) values))

-- the texts on a path: places run apart for each path
abbrev pub path_terms : Analyzer → ℕ → Entry → List (List ℕ × Value) → List ℕ → List Placed
path_terms analyze field e ls path = map (λ p. (json_term field path (type_code text_kind ++ p.0), p.1)) (places 1 (map (λ s. kept (analyze e.tokenizer s)) (texts_at path ls)))

-- a leaf that is no text
abbrev pub leaf_term : ℕ → List ℕ × Value → Option Placed
leaf_term field l = if is_text_leaf l.1 then None else option_map (λ leaf. (json_term field l.0 leaf, 0)) (leaf_bytes l.1)

-- the terms of leaves: texts path by path, and then the others
abbrev pub leaves_terms : Analyzer → ℕ → Entry → List (List ℕ × Value) → List Placed
leaves_terms analyze field e ls = flat_map (path_terms analyze field e ls) (text_paths ls) ++ filter_map (leaf_term field) ls

-- the terms of the values of a JSON field
abbrev pub json_terms : Analyzer → ℕ → Entry → List Value → List Placed
json_terms analyze field e values = leaves_terms analyze field e (flat_map (leaves e.expand_dots []) values)

-- all prefixes of a facet's steps, the empty one included
abbrev pub facet_terms : ℕ → Value → List Placed
facet_terms field (facet steps) = map (λ n. (term_bytes field facet_kind (encoded (take n steps)), 0)) (range_with_len 0 (length steps + 1))
facet_terms field _ = []

-- the value itself
abbrev pub value_terms : ℕ → Kind → List Value → List Placed
value_terms field kind values = map (λ payload. (term_bytes field kind payload, 0)) (filter_map (value_bytes kind) values)

-- the terms of values of a kind
abbrev pub kind_terms : Kind → Analyzer → ℕ → Entry → List Value → List Placed
kind_terms text_kind analyze field e values = text_terms analyze field e values
kind_terms json_kind analyze field e values = json_terms analyze field e values
kind_terms facet_kind analyze field e values = flat_map (facet_terms field) values
kind_terms kind analyze field e values = value_terms field kind values

-- the terms of a field, where it is indexed
abbrev pub field_terms : Analyzer → Document → ℕ × Entry → List Placed
field_terms analyze doc (field, e) = if is_indexed e then kind_terms e.kind analyze field e (values_of field doc) else []

-- the terms of all indexed fields
abbrev pub terms_of : Schema → Analyzer → Document → List Placed
terms_of schema analyze doc = flat_map (field_terms analyze doc) (enumerate_from 0 schema)
