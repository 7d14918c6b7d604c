-- Entries of a schema, by a field's name and options.
use Rattle.std.specs.Prelude.{[], ◌≡◌, List, None, Option, Some, codes, false, is_some, min, true, ℕ}
use Rattle.std.specs.Option.{option_map_or}
use Rattle.definitions.specs.Json.{◌>>=◌}
use Rattle.definitions.specs.Schema.{Entry, Kind, basic, bool_kind, bytes_kind, date_kind, facet_kind, i64_kind, ip_addr_kind, json_kind, max_gap, text_kind, u64_kind}
use Rattle.definitions.specs.SchemaGrammar.{entry_named, flag_or}
use Rattle.serde_json.specs.Data as json
use Rattle.options.specs.Options.{FacetData, Indexing, JsonData, NumericData, TextData, ValueData}
use Rattle.schema.specs.declared.field_entry.FieldType.{FieldType}
use Rattle.schema.specs.declared.field_entry.FieldType.TheVariants.{Bool, Bytes, Date, Facet, I64, IpAddr, JsonObject, Str, U64}

-- the field with what an indexing says, where there is one
abbrev pub with_indexing : Entry → Option Indexing → Entry
with_indexing e i = record e { indexed = is_some i; fieldnorms = option_map_or (λ x. x.fieldnorms) i false; record_option = option_map_or (λ x. x.record_option) i basic; tokenizer = option_map_or (λ x. x.tokenizer) i [] }

-- the gap that an indexing says, which is at most the greatest
abbrev pub gap_in : Indexing → ℕ
gap_in i = min i.gap max_gap

-- the field with an indexing
abbrev pub indexed_by : Entry → Indexing → Entry
indexed_by e i = record e { indexed = true; fieldnorms = i.fieldnorms; record_option = i.record_option; tokenizer = i.tokenizer }

-- the text field with an indexing
abbrev pub text_indexed_by : Entry → Indexing → Entry
text_indexed_by e i = record (indexed_by e i) { gap = gap_in i }

-- a text field
abbrev pub text_entry : List ℕ → TextData → Entry
text_entry name o = with_indexing (record (entry_named name text_kind) { stored = o.stored; fast = o.fast; coerce = o.coerce; gap = option_map_or gap_in o.indexing 1 }) o.indexing

-- a field of numbers or bools
abbrev pub numeric_entry : Kind → List ℕ → NumericData → Entry
numeric_entry kind name o = record (entry_named name kind) { stored = o.stored; indexed = o.indexed; fieldnorms = o.fieldnorms; fast = o.fast; coerce = o.coerce }

-- a field of dates, bytes or addresses
abbrev pub value_entry : Kind → List ℕ → ValueData → Entry
value_entry kind name o = record (entry_named name kind) { stored = o.stored; indexed = o.indexed; fieldnorms = o.fieldnorms; fast = o.fast }

-- a facet field
abbrev pub facet_entry : List ℕ → FacetData → Entry
facet_entry name o = record (entry_named name facet_kind) { stored = o.stored; indexed = true }

-- a JSON field
abbrev pub json_entry : List ℕ → JsonData → Entry
json_entry name o = with_indexing (record (entry_named name json_kind) { stored = o.stored; fast = o.fast; expand_dots = o.expand_dots }) o.indexing

-- a field of that name and type
abbrev pub entry_of : List ℕ → FieldType → Entry
entry_of name (Str o) = text_entry name o
entry_of name (U64 o) = numeric_entry u64_kind name o
entry_of name (I64 o) = numeric_entry i64_kind name o
entry_of name (Bool o) = numeric_entry bool_kind name o
entry_of name (Date o) = value_entry date_kind name o
entry_of name (Facet o) = facet_entry name o
entry_of name (Bytes o) = value_entry bytes_kind name o
entry_of name (JsonObject o) = json_entry name o
entry_of name (IpAddr o) = value_entry ip_addr_kind name o

-- a field of a type, with its options and no others
abbrev pub IsTyped : Entry → Type 0
IsTyped e = (t : FieldType) × (e ≡ entry_of e.name t)

-- ---- read from JSON

-- the options of a date, bytes or address field
abbrev pub value_options_in : json.Data → Option ValueData
value_options_in d = do
  is_stored ← flag_or false (codes "stored") d
  is_fast ← flag_or false (codes "fast") d
  is_indexed ← flag_or false (codes "indexed") d
  lengths ← flag_or is_indexed (codes "fieldnorms") d
  Some (record { stored = is_stored; indexed = is_indexed; fieldnorms = lengths; fast = is_fast })

-- the options of a number or bool field
abbrev pub numeric_options_in : json.Data → Option NumericData
numeric_options_in d = do
  o ← value_options_in d
  is_coerced ← flag_or false (codes "coerce") d
  Some (record { stored = o.stored; indexed = o.indexed; fieldnorms = o.fieldnorms; fast = o.fast; coerce = is_coerced })

-- the options of a text field beside its indexing
abbrev pub text_flags_in : json.Data → Option TextData
text_flags_in d = do
  is_stored ← flag_or false (codes "stored") d
  is_fast ← flag_or false (codes "fast") d
  is_coerced ← flag_or false (codes "coerce") d
  Some (record { stored = is_stored; indexing = None; fast = is_fast; coerce = is_coerced })

-- the options of a JSON field beside its indexing
abbrev pub json_flags_in : json.Data → Option JsonData
json_flags_in d = do
  is_stored ← flag_or false (codes "stored") d
  is_fast ← flag_or false (codes "fast") d
  dots ← flag_or false (codes "expand_dots") d
  Some (record { stored = is_stored; indexing = None; fast = is_fast; expand_dots = dots })
