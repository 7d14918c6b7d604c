-- Schemas as JSON: an array of fields, each an object of its name, its type and its options.
use Rattle.std.specs.Prelude.{[], ◌++◌, ◌+◌, ◌∷◌, Bool, Err, List, None, Ok, Option, Result, Some, codes, false, if◌then◌else◌, is_some, map, true, ℕ}
use Rattle.std.specs.Result.{result_map_both}
use Rattle.definitions.specs.Json.{at_or, has_only, named, number_below, object_of, only_if, text_at, ◌>>=◌}
use Rattle.definitions.specs.QueryGrammar.{record_option_in}
use Rattle.definitions.specs.Replies.{number_data}
use Rattle.definitions.specs.Schema.{Entry, IndexRecordOption, Kind, Schema, all_kinds, basic, bool_kind, facet_kind, i64_kind, json_kind, kind_name, max_gap, text_kind, u64_kind, with_field, with_freqs, with_freqs_and_positions}
use Rattle.definitions.specs.declared.fault.Fault.{Fault}
use Rattle.definitions.specs.declared.fault.Fault.TheVariants as faults
use Rattle.serde_json.specs.Find.{as_bool, as_null, as_object, as_str, get}
use Rattle.serde_json.specs.View.{items_of}
use Rattle.serde_json.specs.Data as json

-- ---- which options are a kind's

-- whether fields of this kind have the option `fast`
abbrev pub has_fast : Kind → Bool
has_fast facet_kind = false
has_fast _ = true

-- whether fields of this kind have the option `coerce`
abbrev pub has_coerce : Kind → Bool
has_coerce text_kind = true
has_coerce u64_kind = true
has_coerce i64_kind = true
has_coerce bool_kind = true
has_coerce _ = false

-- ---- what is read

-- a field with no option set
abbrev pub entry_named : List ℕ → Kind → Entry
entry_named name kind = record { name = name; kind = kind; stored = false; indexed = false; fieldnorms = false; fast = false; coerce = false; record_option = basic; tokenizer = []; gap = 1; expand_dots = false }

-- the option at a key, true or false; where it is absent, this
abbrev pub flag_or : Bool → List ℕ → json.Data → Option Bool
flag_or absent key options = at_or absent as_bool key options

-- a flag that only some kinds have: false, where the kind lacks it
abbrev pub flag_if : Bool → List ℕ → json.Data → Option Bool
flag_if has key options = if has then flag_or false key options else Some false

-- the field with an indexing
abbrev pub with_indexing_in : Entry → json.Data → Option Entry
with_indexing_in e d = only_if (is_some (as_object d)) (do
  option ← at_or basic record_option_in (codes "record") d
  lengths ← flag_or true (codes "fieldnorms") d
  tokenizer ← at_or (codes "default") as_str (codes "tokenizer") d
  Some (record e { indexed = true; fieldnorms = lengths; record_option = option; tokenizer = tokenizer }))

-- the field with an indexing, which says the gap too
abbrev pub with_text_indexing_in : Entry → json.Data → Option Entry
with_text_indexing_in e d = do
  indexed_field ← with_indexing_in e d
  number ← at_or 1 (number_below (max_gap + 1)) (codes "gap") d
  Some (record indexed_field { gap = number })

-- how a field is indexed, as an indexing is read there; null says that it isn't
abbrev pub indexing_in : (Entry → json.Data → Option Entry) → Entry → json.Data → Option Entry
indexing_in read_as e d = if is_some (as_null d) then Some e else read_as e d

-- how a field of values is indexed; lengths are kept where nothing else is said and it is
abbrev pub values_in : Entry → json.Data → Option Entry
values_in e options = do
  is_indexed ← flag_or false (codes "indexed") options
  lengths ← flag_or is_indexed (codes "fieldnorms") options
  Some (record e { indexed = is_indexed; fieldnorms = lengths })

-- the options that fields of one kind have beside those of other kinds
abbrev pub own_options_in : Kind → Entry → json.Data → Option Entry
own_options_in text_kind e options = at_or e (indexing_in with_text_indexing_in e) (codes "indexing") options
own_options_in json_kind e options = do
  dots ← flag_or false (codes "expand_dots") options
  at_or (record e { expand_dots = dots }) (indexing_in with_indexing_in (record e { expand_dots = dots })) (codes "indexing") options
own_options_in facet_kind e options = Some (record e { indexed = true })
own_options_in _ e options = values_in e options

-- a field with its options; other options are ignored
abbrev pub options_in : Entry → json.Data → Option Entry
options_in e options = do
  is_stored ← flag_or false (codes "stored") options
  is_fast ← flag_if (has_fast e.kind) (codes "fast") options
  is_coerced ← flag_if (has_coerce e.kind) (codes "coerce") options
  own_options_in e.kind (record e { stored = is_stored; fast = is_fast; coerce = is_coerced }) options

-- the kind of that name
abbrev pub kind_named : List ℕ → Option Kind
kind_named name = named (map (λ kind. (kind_name kind, kind)) all_kinds) name

-- the object at a key
abbrev pub object_at : List ℕ → json.Data → Option json.Data
object_at key d = get key d >>= (λ o. only_if (is_some (as_object o)) (Some o))

-- a field of that name and type, with its options
abbrev pub typed_entry_in : List ℕ → List ℕ → json.Data → Option Entry
typed_entry_in name type_name options = do
  kind ← kind_named type_name
  options_in (entry_named name kind) options

-- a field, of exactly its name, its type and its options
abbrev pub entry_in : json.Data → Option Entry
entry_in d = only_if (has_only (codes "name" ∷ codes "type" ∷ codes "options" ∷ []) d) (do
  name ← text_at (codes "name") d
  type_name ← text_at (codes "type") d
  options ← object_at (codes "options") d
  typed_entry_in name type_name options)

-- a name that is bad, or comes twice, is no schema's
abbrev pub fault_read : Fault → Fault
fault_read faults.DuplicateName = faults.BadSchema
fault_read faults.BadName = faults.BadSchema
fault_read fault = fault

-- the schema with one more field, if there is one
abbrev pub with_entry : Schema → Option Entry → Result Schema Fault
with_entry schema None = Err faults.BadSchema
with_entry schema (Some e) = result_map_both (λ s. s) fault_read (with_field schema e)

-- what follows from a schema, where there is one
abbrev pub then_with : Result Schema Fault → (Schema → Result Schema Fault) → Result Schema Fault
then_with (Ok schema) f = f schema
then_with (Err fault) f = Err fault

-- the schema with the fields in a list, one after another
abbrev pub with_entries_in : Schema → json.Items → Result Schema Fault
with_entries_in schema json.no_items = Ok schema
with_entries_in schema (json.item d ds) = then_with (with_entry schema (entry_in d)) (λ more. with_entries_in more ds)

-- the schema in a value
abbrev pub schema_in : json.Data → Result Schema Fault
schema_in (json.array ds) = with_entries_in [] ds
schema_in _ = Err faults.BadSchema

-- ---- what is written

-- what is recorded, by its name
abbrev pub record_option_name : IndexRecordOption → List ℕ
record_option_name basic = codes "basic"
record_option_name with_freqs = codes "freq"
record_option_name with_freqs_and_positions = codes "position"

-- an option that is true or false
abbrev pub flag_data : List ℕ → Bool → List (List ℕ × json.Data)
flag_data key flag = (key, json.boolean flag) ∷ []

-- the member of a flag that only some kinds have
abbrev pub flag_data_if : Bool → List ℕ → Bool → List (List ℕ × json.Data)
flag_data_if has key flag = if has then flag_data key flag else []

-- how a text or JSON field is indexed, with what an indexing says of this kind alone
abbrev pub indexing_data : List (List ℕ × json.Data) → Entry → json.Data
indexing_data own e = if e.indexed then object_of ((codes "record", json.string (record_option_name e.record_option)) ∷ (codes "fieldnorms", json.boolean e.fieldnorms) ∷ (codes "tokenizer", json.string e.tokenizer) ∷ own) else json.null

-- the options that fields of one kind have beside those of other kinds
abbrev pub own_options_data : Kind → Entry → List (List ℕ × json.Data)
own_options_data text_kind e = (codes "indexing", indexing_data ((codes "gap", number_data e.gap) ∷ []) e) ∷ []
own_options_data json_kind e = (codes "indexing", indexing_data [] e) ∷ flag_data (codes "expand_dots") e.expand_dots
own_options_data facet_kind e = []
own_options_data _ e = flag_data (codes "indexed") e.indexed ++ flag_data (codes "fieldnorms") e.fieldnorms

-- every option that the field's kind has
abbrev pub options_data : Entry → json.Data
options_data e = object_of (flag_data (codes "stored") e.stored ++ (flag_data_if (has_fast e.kind) (codes "fast") e.fast ++ (flag_data_if (has_coerce e.kind) (codes "coerce") e.coerce ++ own_options_data e.kind e)))

-- a field
abbrev pub entry_data : Entry → json.Data
entry_data e = object_of ((codes "name", json.string e.name) ∷ (codes "type", json.string (kind_name e.kind)) ∷ (codes "options", options_data e) ∷ [])

-- a schema
abbrev pub schema_data : Schema → json.Data
schema_data schema = json.array (items_of (map entry_data schema))
