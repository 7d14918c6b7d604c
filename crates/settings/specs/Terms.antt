-- Terms by the JSON of their values.
use Rattle.std.specs.Prelude.{◌++◌, Bool, List, Option, Some, bytes_eq, ℕ}
use Rattle.std.specs.List.{list_any}
use Rattle.definitions.specs.Json.{◌>>=◌}
use Rattle.definitions.specs.Schema.{Kind}
use Rattle.definitions.specs.TermGrammar.{date_leaf, leaf_in, payload_in}
use Rattle.definitions.specs.Terms.{leaf_bytes, leaf_kinds, term_bytes, type_code}
use Rattle.definitions.specs.Values.{Value}
use Rattle.serde_json.specs.Data as json

-- the term of a value in a field of that kind
abbrev pub value_term : ℕ → Kind → json.Data → Option (List ℕ)
value_term field kind d = payload_in kind d >>= (λ payload. Some (term_bytes field kind payload))

-- what begins a term, and behind it the bytes of a leaf
abbrev pub leaf_behind : List ℕ → Value → Option (List ℕ)
leaf_behind start leaf = leaf_bytes leaf >>= (λ payload. Some (start ++ payload))

-- what begins a term, and behind it the bytes of the leaf in a value
abbrev pub leaf_term : List ℕ → json.Data → Option (List ℕ)
leaf_term start d = leaf_in d >>= leaf_behind start

-- the term of a date in an object
abbrev pub date_term : List ℕ → json.Data → Option (List ℕ)
date_term start d = date_leaf d >>= leaf_behind start

-- whether leaves have that kind
abbrev pub is_leaf_kind : Kind → Bool
is_leaf_kind kind = list_any (λ k. bytes_eq (type_code kind) (type_code k)) leaf_kinds
