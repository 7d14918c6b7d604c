-- Settings as JSON.
use Rattle.std.specs.Prelude.{[], ◌^◌, ◌∷◌, Bool, List, Option, Some, codes, map, ℕ}
use Rattle.std.specs.List.{list_all}
use Rattle.definitions.specs.Json.{at_or, has_only, list_of, number_below, object_of, only_if, ◌>>=◌}
use Rattle.definitions.specs.Replies.{number_data}
use Rattle.definitions.specs.Schema.{Schema}
use Rattle.definitions.specs.Settings.{Settings, default_settings, is_settings}
use Rattle.definitions.specs.TermData.{reads_back, term_data}
use Rattle.definitions.specs.TermGrammar.{term_in}
use Rattle.serde_json.specs.Find.{as_number, as_u64, get}
use Rattle.serde_json.specs.View.{items_of}
use Rattle.serde_json.specs.Data as json

-- ---- reading

-- a whole number from 0 on
abbrev pub whole_in : json.Data → Option ℕ
whole_in d = as_number d >>= as_u64

-- a term and its weight
abbrev pub weight_in : Schema → json.Data → Option (List ℕ × ℕ)
weight_in schema d = only_if (has_only (codes "term" ∷ codes "weight" ∷ []) d) (do
  t ← get (codes "term") d >>= term_in schema
  weight ← get (codes "weight") d >>= whole_in
  Some (t, weight))

-- norms have 32 bits
abbrev pub norm_in : json.Data → Option ℕ
norm_in d = number_below (2 ^ 32) d

-- settings in range
abbrev pub in_range : Settings → Option Settings
in_range s = only_if (is_settings s) (Some s)

-- the keys of settings
abbrev pub settings_keys : List (List ℕ)
settings_keys = codes "docs_per_segment" ∷ codes "block_size" ∷ codes "cache_blocks" ∷ codes "default_weight" ∷ codes "weights" ∷ codes "norms" ∷ []

-- what an object says, and by default where it lacks a key
abbrev pub settings_in : Schema → json.Data → Option Settings
settings_in schema d = only_if (has_only settings_keys d) (do
  docs ← at_or default_settings.docs_per_segment whole_in (codes "docs_per_segment") d
  size ← at_or default_settings.block_size whole_in (codes "block_size") d
  blocks ← at_or default_settings.cache_blocks whole_in (codes "cache_blocks") d
  weight ← at_or default_settings.default_weight whole_in (codes "default_weight") d
  own ← at_or default_settings.weights (list_of (weight_in schema)) (codes "weights") d
  by_length ← at_or default_settings.norms (list_of norm_in) (codes "norms") d
  in_range (record { docs_per_segment = docs; block_size = size; cache_blocks = blocks; default_weight = weight; weights = own; norms = by_length }))

-- ---- writing

-- a term and its weight as JSON
abbrev pub weight_data : Schema → List ℕ × ℕ → json.Data
weight_data schema w = object_of ((codes "term", term_data schema w.0) ∷ (codes "weight", number_data w.1) ∷ [])

-- the array of what each element is as JSON
abbrev pub array_of : {A : Type 0} → (A → json.Data) → List A → json.Data
array_of f xs = json.array (items_of (map f xs))

-- settings as JSON, with every key
abbrev pub settings_data : Schema → Settings → json.Data
settings_data schema s = object_of ((codes "docs_per_segment", number_data s.docs_per_segment) ∷ (codes "block_size", number_data s.block_size) ∷ (codes "cache_blocks", number_data s.cache_blocks) ∷ (codes "default_weight", number_data s.default_weight) ∷ (codes "weights", array_of (weight_data schema) s.weights) ∷ (codes "norms", array_of number_data s.norms) ∷ [])

-- whether each weighted term is read from what is written of it
abbrev pub weighs_named : Schema → Settings → Bool
weighs_named schema s = list_all (λ w. reads_back schema w.0) s.weights
