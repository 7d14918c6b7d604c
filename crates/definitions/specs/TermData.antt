-- Terms written as JSON.
use Rattle.std.specs.Prelude.{[], ◌-ℤ◌, ◌==◌, ◌^◌, ◌∷◌, Bool, List, bytes_eq, codes, drop, false, find, if◌then◌else◌, length, map, nat_lt, pos, slice_get, take, ℕ, ℤ}
use Rattle.std.specs.List.{after_first, before_first, slice_split}
use Rattle.std.specs.Option.{option_map_or}
use Rattle.std.specs.Int.{Width, byte_len, from_be_bytes, w128, w64}
use Rattle.std.specs.Str.{is_utf8}
use Rattle.definitions.specs.Json.{object_of}
use Rattle.definitions.specs.Printed.{printed}
use Rattle.definitions.specs.Schema.{Entry, Kind, Schema, bool_kind, bytes_kind, date_kind, facet_kind, i64_kind, ip_addr_kind, json_kind, text_kind, u64_kind}
use Rattle.definitions.specs.TermGrammar.{term_in}
use Rattle.definitions.specs.Terms.{field_of, leaf_kinds, payload_of, type_code}
use Rattle.definitions.specs.Values.{Value, bool, bytes, date, facet, i64, ip_addr, null, str, u64}
use Rattle.serde_json.specs.View.{items_of}
use Rattle.serde_json.specs.Data as json

-- ---- the value of a term

-- a value of a text, and of other bytes none
abbrev pub of_text : List ℕ → Value → Value
of_text bs v = if is_utf8 bs then v else null

-- a value of as many bytes as its width has, and of more or fewer none
abbrev pub of_width : Width → List ℕ → Value → Value
of_width w bs v = if length bs == byte_len w then v else null

-- a number from bytes with the sign bit flipped
abbrev pub signed_number : List ℕ → ℤ
signed_number bs = pos (from_be_bytes w64 bs) -ℤ pos (2 ^ 63)

-- the value that has these bytes in a field of that kind, and else null
abbrev pub value_of_bytes : Kind → List ℕ → Value
value_of_bytes text_kind bs = of_text bs (str bs)
value_of_bytes u64_kind bs = of_width w64 bs (u64 (from_be_bytes w64 bs))
value_of_bytes i64_kind bs = of_width w64 bs (i64 (signed_number bs))
value_of_bytes bool_kind bs = of_width w64 bs (bool (nat_lt 0 (from_be_bytes w64 bs)))
value_of_bytes date_kind bs = of_width w64 bs (date (signed_number bs))
value_of_bytes facet_kind bs = of_text bs (facet (slice_split (◌==◌ 0) bs))
value_of_bytes bytes_kind bs = bytes bs
value_of_bytes json_kind bs = null
value_of_bytes ip_addr_kind bs = of_width w128 bs (ip_addr (from_be_bytes w128 bs))

-- ---- in a JSON field

-- the value of a leaf, whose first byte is the code of its kind
abbrev pub leaf_of_bytes : List ℕ → Value
leaf_of_bytes bs = option_map_or (λ kind. value_of_bytes kind (drop 1 bs)) (find (λ kind. bytes_eq (take 1 bs) (type_code kind)) leaf_kinds) null

-- a leaf as JSON; a date is told from a text by its key
abbrev pub leaf_data : Value → json.Data
leaf_data (date nanos) = object_of ((codes "date", printed (date nanos)) ∷ [])
leaf_data v = printed v

-- the keys of a path, between which stands U+0001
abbrev pub path_data : List ℕ → json.Data
path_data path = if is_utf8 path then json.array (items_of (map json.string (slice_split (◌==◌ 1) path))) else json.null

-- ---- of any field

-- the members that say a value; a JSON field's bytes are a path, U+0000 and a leaf
abbrev pub value_members : Kind → List ℕ → List (List ℕ × json.Data)
value_members json_kind bs = (codes "path", path_data (before_first (◌==◌ 0) bs)) ∷ (codes "value", leaf_data (leaf_of_bytes (after_first (◌==◌ 0) bs))) ∷ []
value_members kind bs = (codes "value", printed (value_of_bytes kind bs)) ∷ []

-- the term of a field as JSON
abbrev pub term_of_entry : List ℕ → Entry → json.Data
term_of_entry t e = object_of ((codes "field", json.string e.name) ∷ value_members e.kind (payload_of t))

-- a term as JSON: null where the schema has no such field
abbrev pub term_data : Schema → List ℕ → json.Data
term_data schema t = option_map_or (term_of_entry t) (slice_get schema (field_of t)) json.null

-- whether a term is read from what is written of it
abbrev pub reads_back : Schema → List ℕ → Bool
reads_back schema t = option_map_or (bytes_eq t) (term_in schema (term_data schema t)) false
