-- Terms: what a document is found by, as bytes. Their order is the order of these bytes.
use Rattle.std.specs.Prelude.{[], ◌&&◌, ◌*ℤ◌, ◌++◌, ◌+ℤ◌, ◌==◌, ◌^◌, ◌||◌, ◌∷◌, Bool, List, None, Option, Some, bytes_eq, codes, drop, false, find, if◌then◌else◌, int_div, map, nat_abs, nat_lt, option_and_then, option_map, pos, take, ℕ, ℤ}
use Rattle.std.specs.List.{after_first, join_with_byte}
use Rattle.std.specs.Option.{option_map_or}
use Rattle.std.specs.Int.{from_be_bytes, to_be_bytes, w128, w32, w64}
use Rattle.definitions.specs.Facets.{encoded}
use Rattle.definitions.specs.Schema.{Kind, all_kinds, bool_kind, bytes_kind, date_kind, facet_kind, i64_kind, ip_addr_kind, is_text, json_kind, text_kind, u64_kind}
use Rattle.definitions.specs.Values.{Value, bool, bytes, date, facet, i64, ip_addr, str, u64}

-- the byte that stands for a kind
abbrev pub type_code : Kind → List ℕ
type_code text_kind = codes "s"
type_code u64_kind = codes "u"
type_code i64_kind = codes "i"
type_code bool_kind = codes "o"
type_code date_kind = codes "d"
type_code facet_kind = codes "h"
type_code bytes_kind = codes "b"
type_code json_kind = codes "j"
type_code ip_addr_kind = codes "p"

-- the field's number, its kind's code and the value
abbrev pub term_bytes : ℕ → Kind → List ℕ → List ℕ
term_bytes field kind payload = to_be_bytes w32 field ++ (type_code kind ++ payload)

-- with the sign bit flipped, so that negative numbers come first
abbrev pub signed_bytes : ℤ → List ℕ
signed_bytes z = to_be_bytes w64 (nat_abs (z +ℤ pos (2 ^ 63)))

-- nanoseconds cut toward zero to whole seconds
abbrev pub whole_seconds : ℤ → ℤ
whole_seconds nanos = int_div nanos (pos (10 ^ 9)) *ℤ pos (10 ^ 9)

-- the bytes of a value in a field of its kind; a text is one token
abbrev pub value_bytes : Kind → Value → Option (List ℕ)
value_bytes text_kind (str s) = Some s
value_bytes u64_kind (u64 n) = Some (to_be_bytes w64 n)
value_bytes i64_kind (i64 z) = Some (signed_bytes z)
value_bytes bool_kind (bool b) = Some (to_be_bytes w64 (if b then 1 else 0))
value_bytes date_kind (date nanos) = Some (signed_bytes (whole_seconds nanos))
value_bytes facet_kind (facet steps) = Some (encoded steps)
value_bytes bytes_kind (bytes bs) = Some bs
value_bytes ip_addr_kind (ip_addr n) = Some (to_be_bytes w128 n)
value_bytes _ _ = None

-- ---- inside a JSON field

-- with `expand_dots` a dot in a key separates keys
abbrev pub key_bytes : Bool → List ℕ → List ℕ
key_bytes dots key = map (λ b. if dots && (b == 46) then 1 else b) key

-- the keys joined by U+0001
abbrev pub path_of_keys : Bool → List (List ℕ) → List ℕ
path_of_keys dots keys = join_with_byte 1 (map (key_bytes dots) keys)

-- a value's kind at a leaf: a whole number is an i64 where it fits
abbrev pub leaf_kind : Value → Option (Kind × Value)
leaf_kind (str s) = Some (text_kind, str s)
leaf_kind (u64 n) = Some (if nat_lt n (2 ^ 63) then (i64_kind, i64 (pos n)) else (u64_kind, u64 n))
leaf_kind (i64 z) = Some (i64_kind, i64 z)
leaf_kind (bool b) = Some (bool_kind, bool b)
leaf_kind (date nanos) = Some (date_kind, date nanos)
leaf_kind _ = None

-- the inner code and the value's bytes
abbrev pub leaf_bytes : Value → Option (List ℕ)
leaf_bytes v = option_and_then (λ p. option_map (λ payload. type_code p.0 ++ payload) (value_bytes p.0 p.1)) (leaf_kind v)

-- a term of a JSON field: its path, U+0000, and the leaf
abbrev pub json_term : ℕ → List ℕ → List ℕ → List ℕ
json_term field path leaf = term_bytes field json_kind (path ++ (0 ∷ leaf))

-- ---- what a term says

-- the number of a term's field
abbrev pub field_of : List ℕ → ℕ
field_of t = from_be_bytes w32 (take 4 t)

-- whether a term has the code of a kind
abbrev pub has_kind : Kind → List ℕ → Bool
has_kind kind t = bytes_eq (take 1 (drop 4 t)) (type_code kind)

-- the kind that a term's code names; there is one where the term has its code
abbrev pub kind_in : List ℕ → Option Kind
kind_in t = find (λ kind. has_kind kind t) all_kinds

-- what stands behind field and code
abbrev pub payload_of : List ℕ → List ℕ
payload_of t = drop 5 t

-- the kinds of leaves
abbrev pub leaf_kinds : List Kind
leaf_kinds = text_kind ∷ u64_kind ∷ i64_kind ∷ bool_kind ∷ date_kind ∷ []

-- of a JSON term, the kind that the byte after the first U+0000 names
abbrev pub inner_kind : List ℕ → Option Kind
inner_kind t = find (λ kind. bytes_eq (take 1 (after_first (◌==◌ 0) (drop 5 t))) (type_code kind)) leaf_kinds

-- a term of a text field, or of a text in a JSON field
abbrev pub is_text_term : List ℕ → Bool
is_text_term t = has_kind text_kind t || (has_kind json_kind t && option_map_or is_text (inner_kind t) false)
