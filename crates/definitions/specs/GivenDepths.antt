-- How deep JSON, or a value, may nest that a caller hands over.
use Rattle.std.specs.Prelude.{Bool, nat_lt, ℕ}
use Rattle.definitions.specs.Values.{Value, nesting}
use Rattle.serde_json.specs.Data as json

-- deeper than any text that `serde_json` reads, and than any value that can be indexed
abbrev pub max_given_depth : ℕ
max_given_depth = 256

-- whether JSON nests deeper
abbrev pub is_too_deep : json.Data → Bool
is_too_deep d = nat_lt max_given_depth (json.depth d)

-- whether a value nests deeper
abbrev pub is_too_deep_value : Value → Bool
is_too_deep_value v = nat_lt max_given_depth (nesting v)
