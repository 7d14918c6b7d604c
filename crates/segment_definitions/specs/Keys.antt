-- Keys: the value bytes of terms, of which each kind has its own.
use Rattle.std.specs.Prelude.{◌%◌, ◌&&◌, ◌==◌, ◌^◌, Bool, List, bytes_eq, drop, false, find, length, nat_le, nat_lt, slice_get, take, true, ◌≡◌, ℕ}
use Rattle.std.specs.List.{AllByRecursion, after_first, before_first}
use Rattle.std.specs.Option.{option_map_or}
use Rattle.std.specs.Int.{from_be_bytes, w64}
use Rattle.std.specs.Str.{is_utf8}
use Rattle.definitions.specs.Schema.{Kind, Schema, bool_kind, bytes_kind, date_kind, facet_kind, i64_kind, ip_addr_kind, json_kind, text_kind, u64_kind}
use Rattle.definitions.specs.Terms.{leaf_kinds, type_code}
use Rattle.layouts.specs.InvertedIndexes.{IndexedField, IndexedTerm}

-- Whether bytes are those of a value outside a JSON object. A text may be longer than a token that is indexed: it is a
-- term all the same, which no document holds. A date is whole seconds before or after 2^63 nanoseconds, the start of 1970.
-- Every text is the steps of a facet, joined by U+0000.
abbrev pub is_value_key : Kind → List ℕ → Bool
is_value_key text_kind key = is_utf8 key
is_value_key u64_kind key = length key == 8
is_value_key i64_kind key = length key == 8
is_value_key bool_kind key = (length key == 8) && nat_lt (from_be_bytes w64 key) 2
is_value_key date_kind key = (length key == 8) && (from_be_bytes w64 key % 10 ^ 9 == 2 ^ 63 % 10 ^ 9)
is_value_key facet_kind key = is_utf8 key
is_value_key bytes_kind key = true
is_value_key ip_addr_kind key = length key == 16
is_value_key json_kind key = false

-- whether they are those of a leaf of that kind; a whole number that fits i64 is an i64
abbrev pub is_leaf_key : Kind → List ℕ → Bool
is_leaf_key u64_kind key = (length key == 8) && nat_le (2 ^ 63) (from_be_bytes w64 key)
is_leaf_key kind key = is_value_key kind key

-- whether they are the code of a leaf's kind, and its bytes
abbrev pub is_leaf : List ℕ → Bool
is_leaf bs = option_map_or (λ kind. is_leaf_key kind (drop 1 bs)) (find (λ kind. bytes_eq (take 1 bs) (type_code kind)) leaf_kinds) false

-- Whether bytes are those of a value of the kind. In a JSON object they are a text, the keys joined by U+0001, then
-- U+0000, and a leaf.
abbrev pub is_key : Kind → List ℕ → Bool
is_key json_kind key = is_utf8 (before_first (◌==◌ 0) key) && is_leaf (after_first (◌==◌ 0) key)
is_key kind key = is_value_key kind key

-- whether they are those of a value of the field
abbrev pub is_key_of : Schema → ℕ → List ℕ → Bool
is_key_of schema field key = option_map_or (λ e. is_key e.kind key) (slice_get schema field) false

-- the terms of a field have the bytes of its values
abbrev pub IsKeyed : Schema → IndexedField → Type 0
IsKeyed schema f = AllByRecursion (λ (t : IndexedTerm). is_key_of schema f.field t.key ≡ true) f.terms

-- each term of several fields is a key of its field
abbrev pub AreKeyed : Schema → List IndexedField → Type 0
AreKeyed schema fields = AllByRecursion (IsKeyed schema) fields
