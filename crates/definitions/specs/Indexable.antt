-- Which documents can be indexed.
use Rattle.std.specs.Prelude.{◌&&◌, ◌||◌, Bool, false, is_some, nat_le, not, true, ℕ}
use Rattle.std.specs.List.{list_all}
use Rattle.definitions.specs.Schema.{Entry, Kind, Schema, field_has, is_indexed, json_kind, text_kind}
use Rattle.definitions.specs.Terms.{value_bytes}
use Rattle.definitions.specs.Values.{Document, Members, Value, Values, array, bytes, facet, ip_addr, member, nesting, no_members, no_values, object, pre_tok_str, value}

-- whether a field of that kind takes the value
abbrev pub is_of_kind : Kind → Value → Bool
is_of_kind text_kind (pre_tok_str s ts) = true
is_of_kind json_kind (object ms) = true
is_of_kind kind v = is_some (value_bytes kind v)

-- whether a JSON value holds a facet, bytes, an address or a pre-tokenised text
abbrev mutual
  pub has_foreign_leaf : Value → Bool
  has_foreign_leaf (facet steps) = true
  has_foreign_leaf (bytes bs) = true
  has_foreign_leaf (ip_addr n) = true
  has_foreign_leaf (pre_tok_str s ts) = true
  has_foreign_leaf (array vs) = have_foreign_leaf vs
  has_foreign_leaf (object ms) = members_have_foreign_leaf ms
  has_foreign_leaf _ = false

  pub have_foreign_leaf : Values → Bool
  have_foreign_leaf no_values = false
  have_foreign_leaf (value v vs) = has_foreign_leaf v || have_foreign_leaf vs

  pub members_have_foreign_leaf : Members → Bool
  members_have_foreign_leaf no_members = false
  members_have_foreign_leaf (member k v ms) = has_foreign_leaf v || members_have_foreign_leaf ms

-- whether the kind is JSON
abbrev pub is_json : Kind → Bool
is_json json_kind = true
is_json _ = false

-- whether an indexed field takes the value
abbrev pub takes : Entry → Value → Bool
takes e v = is_of_kind e.kind v && not (is_json e.kind && has_foreign_leaf v)

-- the deepest that arrays and objects may nest
abbrev pub max_nesting : ℕ
max_nesting = 128

-- whether a value of a field can be indexed
abbrev pub is_indexable_value : Schema → ℕ × Value → Bool
is_indexable_value schema (field, v) = nat_le (nesting v) max_nesting && not (field_has (λ e. is_indexed e && not (takes e v)) schema field)

-- whether each value can be indexed
abbrev pub is_indexable : Schema → Document → Bool
is_indexable schema doc = list_all (is_indexable_value schema) doc
