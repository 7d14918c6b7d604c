-- Terms as JSON: a field's name and a value, and in a JSON field the path to the value.
use Rattle.std.specs.Prelude.{[], ◌∷◌, Bool, List, None, Option, Some, codes, false, if◌then◌else◌, length, nat_lt, not, slice_get, ℕ}
use Rattle.std.specs.Result.{result_ok}
use Rattle.definitions.specs.Indexable.{is_json}
use Rattle.definitions.specs.Json.{has_only, list_of, only_if, text_at, ◌>>=◌}
use Rattle.definitions.specs.JsonLeaves.{has_zero}
use Rattle.definitions.specs.Reading.{date_value, number_value, read_kind}
use Rattle.definitions.specs.Schema.{Kind, Schema, field_named}
use Rattle.definitions.specs.Terms.{json_term, leaf_bytes, path_of_keys, term_bytes, value_bytes}
use Rattle.definitions.specs.Values.{Value, bool, str}
use Rattle.serde_json.specs.Find.{as_str, get, is_float}
use Rattle.serde_json.specs.Data as json

-- the bytes of a value in a field of that kind; a text is the token itself
abbrev pub payload_in : Kind → json.Data → Option (List ℕ)
payload_in kind d = result_ok (read_kind kind false d) >>= value_bytes kind

-- a field's name and a value, beside further keys
abbrev pub plain_term : List (List ℕ) → ℕ → Kind → json.Data → Option (List ℕ)
plain_term more field kind d = only_if (has_only (codes "field" ∷ codes "value" ∷ more) d) (do
  v ← get (codes "value") d
  payload ← payload_in kind v
  Some (term_bytes field kind payload))

-- ---- in a JSON field

-- a key without U+0000
abbrev pub key_in : json.Data → Option (List ℕ)
key_in d = as_str d >>= (λ key. only_if (not (has_zero key)) (Some key))

-- one key or more
abbrev pub path_in : json.Data → Option (List (List ℕ))
path_in d = list_of key_in d >>= (λ keys. only_if (nat_lt 0 (length keys)) (Some keys))

-- a date, which is told from a text by its key
abbrev pub date_leaf : json.Data → Option Value
date_leaf d = only_if (has_only (codes "date" ∷ []) d) (text_at (codes "date") d >>= (λ s. result_ok (date_value s)))

-- a text, a whole number, a bool or a date
abbrev pub leaf_in : json.Data → Option Value
leaf_in (json.string s) = Some (str s)
leaf_in (json.number n) = only_if (not (is_float n)) (Some (number_value n))
leaf_in (json.boolean b) = Some (bool b)
leaf_in (json.object ms) = date_leaf (json.object ms)
leaf_in _ = None

-- a field's name, a path and a leaf, beside further keys
abbrev pub path_term : List (List ℕ) → ℕ → Bool → json.Data → Option (List ℕ)
path_term more field dots d = only_if (has_only (codes "field" ∷ codes "path" ∷ codes "value" ∷ more) d) (do
  p ← get (codes "path") d
  keys ← path_in p
  v ← get (codes "value") d
  leaf ← leaf_in v
  payload ← leaf_bytes leaf
  Some (json_term field (path_of_keys dots keys) payload))

-- ---- of any field

-- the term in an object that may have further keys
abbrev pub term_beside : List (List ℕ) → Schema → json.Data → Option (List ℕ)
term_beside more schema d = do
  name ← text_at (codes "field") d
  field ← field_named schema name
  e ← slice_get schema field
  if is_json e.kind then path_term more field e.expand_dots d else plain_term more field e.kind d

-- the term in an object with no key but its own
abbrev pub term_in : Schema → json.Data → Option (List ℕ)
term_in schema d = term_beside [] schema d
