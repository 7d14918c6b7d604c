-- Reading a document from JSON: the value or the first refusal.
use Rattle.std.specs.Prelude.{[], ◌&&◌, ◌++◌, ◌+◌, ◌^◌, ◌∷◌, Bool, Err, List, None, Ok, Option, Result, Some, bytes_eq, codes, drop, false, if◌then◌else◌, int_le, int_lt, length, nat_eq, nat_lt, neg_ℤ, ok_or, option_and_then, option_map, pos, slice_get, true, ℕ}
use Rattle.std.specs.List.{list_all, starts_with}
use Rattle.std.specs.Option.{option_map_or}
use Rattle.std.specs.Char.{is_ascii_digit}
use Rattle.definitions.specs.Addresses.{address_in, digits_value}
use Rattle.definitions.specs.Dates.{date_in}
use Rattle.definitions.specs.Facets.{facet_of_path}
use Rattle.definitions.specs.GivenDepths.{is_too_deep}
use Rattle.definitions.specs.Schema.{Entry, Kind, Schema, bool_kind, bytes_kind, date_kind, facet_kind, field_named, i64_kind, ip_addr_kind, json_kind, text_kind, u64_kind}
use Rattle.definitions.specs.Values.{Document, Members, Value, Values, array, bool, bytes, date, facet, i64, ip_addr, member, no_members, no_values, null, object, str, u64, value}
use Rattle.serde_json.specs.Read.{read}
use Rattle.serde_json.specs.Find.{as_object}
use Rattle.serde_json.specs.Written.{has_float, number_text}
use Rattle.base64.specs.GeneralPurpose.{decoded_of}
use Rattle.base64.specs.Engines.{standard}
use Rattle.definitions.specs.declared.fault.Fault.{Fault}
use Rattle.definitions.specs.declared.fault.Fault.TheVariants.{FloatValue, InvalidBase64, NotAnObject, NotIndexable, OverflowError, ParseError, TypeError}
use Rattle.serde_json.specs.Data as json

-- ---- texts that a field coerces

-- one digit or more, in decimal
abbrev pub decimal_in : List ℕ → Option ℕ
decimal_in s = if nat_lt 0 (length s) && list_all is_ascii_digit s then Some (digits_value 10 s) else None

-- a value, or else `ParseError`
abbrev pub or_parse_error : Option Value → Result Value Fault
or_parse_error o = ok_or o ParseError

-- what the number passes, or nothing
abbrev pub below : ℕ → ℕ → Option ℕ
below limit n = if nat_lt n limit then Some n else None

-- without the sign that it begins with
abbrev pub after_sign : List ℕ → List ℕ → List ℕ
after_sign sign s = if starts_with nat_eq s sign then drop 1 s else s

-- decimal text of a u64; a `+` may stand before
abbrev pub u64_text : List ℕ → Option Value
u64_text s = option_map u64 (option_and_then (below (2 ^ 64)) (decimal_in (after_sign (codes "+") s)))

-- decimal text of an i64; a `+` or a `-` may stand before
abbrev pub i64_text : List ℕ → Option Value
i64_text s = if starts_with nat_eq s (codes "-") then option_map (λ n. i64 (neg_ℤ (pos n))) (option_and_then (below (2 ^ 63 + 1)) (decimal_in (drop 1 s))) else option_map (λ n. i64 (pos n)) (option_and_then (below (2 ^ 63)) (decimal_in (after_sign (codes "+") s)))

-- the text of a bool
abbrev pub bool_text : List ℕ → Option Value
bool_text s = if bytes_eq s (codes "true") then Some (bool true) else (if bytes_eq s (codes "false") then Some (bool false) else None)

-- ---- whole numbers

-- a whole number as an i64, or else `OverflowError`
abbrev pub i64_number : json.Num → Result Value Fault
i64_number (json.unsigned n) = if nat_lt n (2 ^ 63) then Ok (i64 (pos n)) else Err OverflowError
i64_number (json.negative z) = Ok (i64 z)
i64_number (json.float x) = Err FloatValue

-- a whole number that fits a u64
abbrev pub u64_number : json.Num → Result Value Fault
u64_number (json.unsigned n) = Ok (u64 n)
u64_number (json.negative z) = Err OverflowError
u64_number (json.float x) = Err FloatValue

-- ---- the values of a JSON field

-- a whole number as an i64 where it fits; no value here has a float
abbrev pub number_value : json.Num → Value
number_value (json.unsigned n) = if nat_lt n (2 ^ 63) then i64 (pos n) else u64 n
number_value (json.negative z) = i64 z
number_value (json.float x) = null

abbrev mutual
  pub json_value : json.Data → Value
  json_value json.null = null
  json_value (json.boolean b) = bool b
  json_value (json.number n) = number_value n
  json_value (json.string s) = str s
  json_value (json.array ds) = array (json_values ds)
  json_value (json.object ms) = object (json_members ms)

  pub json_values : json.Items → Values
  json_values json.no_items = no_values
  json_values (json.item d ds) = value (json_value d) (json_values ds)

  pub json_members : json.Members → Members
  json_members json.no_members = no_members
  json_members (json.member k d ms) = member k (json_value d) (json_members ms)

-- ---- one value, by the kind of its field

-- where the field coerces, what is read then, and else `TypeError`
abbrev pub if_coerced : Bool → Result Value Fault → Result Value Fault
if_coerced coerce r = if coerce then r else Err TypeError

-- a bool as JSON text
abbrev pub bool_json : Bool → List ℕ
bool_json b = if b then codes "true" else codes "false"

-- a timestamp within 64 bits of nanoseconds
abbrev pub date_value : List ℕ → Result Value Fault
date_value s = elim (date_in s) [ None ↦ Err ParseError | Some nanos ↦ if int_le (neg_ℤ (pos (2 ^ 63))) nanos && int_lt nanos (pos (2 ^ 63)) then Ok (date nanos) else Err OverflowError ]

-- a value of a kind from JSON, and why it is none
abbrev pub read_kind : Kind → Bool → json.Data → Result Value Fault
read_kind text_kind coerce (json.string s) = Ok (str s)
read_kind text_kind coerce (json.number n) = if_coerced coerce (Ok (str (number_text n)))
read_kind text_kind coerce (json.boolean b) = if_coerced coerce (Ok (str (bool_json b)))
read_kind text_kind coerce json.null = if_coerced coerce (Ok (str (codes "null")))
read_kind u64_kind coerce (json.number n) = u64_number n
read_kind u64_kind coerce (json.string s) = if_coerced coerce (or_parse_error (u64_text s))
read_kind i64_kind coerce (json.number n) = i64_number n
read_kind i64_kind coerce (json.string s) = if_coerced coerce (or_parse_error (i64_text s))
read_kind bool_kind coerce (json.boolean b) = Ok (bool b)
read_kind bool_kind coerce (json.string s) = if_coerced coerce (or_parse_error (bool_text s))
read_kind date_kind coerce (json.string s) = date_value s
read_kind date_kind coerce (json.number n) = i64_number n
read_kind facet_kind coerce (json.string s) = or_parse_error (option_map facet (facet_of_path s))
read_kind bytes_kind coerce (json.string s) = ok_or (option_map bytes (decoded_of standard s)) InvalidBase64
read_kind json_kind coerce (json.object ms) = Ok (object (json_members ms))
read_kind ip_addr_kind coerce (json.string s) = or_parse_error (option_map ip_addr (address_in s))
read_kind _ coerce _ = Err TypeError

-- a float anywhere in the value is refused first
abbrev pub read_value : Entry → json.Data → Result Value Fault
read_value e d = if has_float d then Err FloatValue else read_kind e.kind e.coerce d

-- ---- documents

-- what is read first, and then what follows
abbrev pub then_read : {A B C : Type 0} → (A → B → C) → Result A Fault → Result B Fault → Result C Fault
then_read f (Ok a) (Ok b) = Ok (f a b)
then_read f (Ok a) (Err fault) = Err fault
then_read f (Err fault) _ = Err fault

-- a value for each element
abbrev pub read_items : ℕ → Entry → json.Items → Result Document Fault
read_items field e json.no_items = Ok []
read_items field e (json.item d ds) = then_read (λ v doc. (field, v) ∷ doc) (read_value e d) (read_items field e ds)

-- an array gives one value for each element
abbrev pub read_field : ℕ → Entry → json.Data → Result Document Fault
read_field field e (json.array ds) = read_items field e ds
read_field field e d = then_read (λ v doc. (field, v) ∷ doc) (read_value e d) (Ok [])

-- a key that names no field is skipped
abbrev pub read_member : Schema → List ℕ → json.Data → Result Document Fault
read_member schema key d = elim (field_named schema key) [ None ↦ Ok [] | Some field ↦ option_map_or (λ e. read_field field e d) (slice_get schema field) (Ok []) ]

-- the members in the order of their keys' bytes, in which `serde_json` keeps them
abbrev pub read_members : Schema → json.Members → Result Document Fault
read_members schema json.no_members = Ok []
read_members schema (json.member key d ms) = then_read ◌++◌ (read_member schema key d) (read_members schema ms)

-- a document from an object
abbrev pub read_object : Schema → json.Data → Result Document Fault
read_object schema d = elim (as_object d) [ None ↦ Err NotAnObject | Some ms ↦ read_members schema ms ]

-- a document from a value; one that nests deeper than any text isn't looked into
abbrev pub read_data : Schema → json.Data → Result Document Fault
read_data schema d = if is_too_deep d then Err NotIndexable else read_object schema d

-- a document from a text, by `serde_json`'s reading
abbrev pub read_json : Schema → List ℕ → Result Document Fault
read_json schema s = elim (read s) [ None ↦ Err NotAnObject | Some d ↦ read_data schema d ]
