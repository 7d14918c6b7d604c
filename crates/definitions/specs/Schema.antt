-- Fields: their names, their kinds and what their options say.
use Rattle.std.specs.Prelude.{[], ⊤, ◌&&◌, ◌++◌, ◌∷◌, ◌≡◌, ◌≢◌, ◌≤◌, Bool, Err, IsTrue, IsUtf8, List, Ok, Option, Result, bytes_eq, codes, false, if◌then◌else◌, is_some, length, nat_eq, nat_le, not, slice_get, true, ℕ}
use Rattle.std.specs.List.{AllByRecursion, position_from, starts_with}
use Rattle.std.specs.Option.{option_map_or}
use Rattle.definitions.specs.declared.fault.Fault.{Fault}
use Rattle.definitions.specs.declared.fault.Fault.TheVariants.{BadName, DuplicateName, TooManyFields}

-- the types of values that a field may take
pub data Kind : Type 0 where
  text_kind : Kind
  u64_kind : Kind
  i64_kind : Kind
  bool_kind : Kind
  date_kind : Kind
  facet_kind : Kind
  bytes_kind : Kind
  json_kind : Kind
  ip_addr_kind : Kind

-- the kinds, in the order in which they are listed
abbrev pub all_kinds : List Kind
all_kinds = text_kind ∷ u64_kind ∷ i64_kind ∷ bool_kind ∷ date_kind ∷ facet_kind ∷ bytes_kind ∷ json_kind ∷ ip_addr_kind ∷ []

-- a kind's name in JSON
abbrev pub kind_name : Kind → List ℕ
kind_name text_kind = codes "text"
kind_name u64_kind = codes "u64"
kind_name i64_kind = codes "i64"
kind_name bool_kind = codes "bool"
kind_name date_kind = codes "date"
kind_name facet_kind = codes "facet"
kind_name bytes_kind = codes "bytes"
kind_name json_kind = codes "json_object"
kind_name ip_addr_kind = codes "ip_addr"

-- what is recorded of a text term: its documents, with counts, or with positions too
pub data IndexRecordOption : Type 0 where
  basic : IndexRecordOption
  with_freqs : IndexRecordOption
  with_freqs_and_positions : IndexRecordOption

-- whether counts are recorded
abbrev pub has_freq : IndexRecordOption → Bool
has_freq basic = false
has_freq with_freqs = true
has_freq with_freqs_and_positions = true

-- whether positions are recorded
abbrev pub has_positions : IndexRecordOption → Bool
has_positions basic = false
has_positions with_freqs = false
has_positions with_freqs_and_positions = true

-- A field of a schema. An option that its kind lacks is unset. `indexed` says of a text or JSON field
-- that it has an indexing; what is recorded and the tokenizer are those of that indexing. `gap` is what
-- stands between two values of a text field that is indexed, and 1 of any other field.
pub record Entry : Type 0 where
  pub name : List ℕ
  pub kind : Kind
  pub stored : Bool
  pub indexed : Bool
  pub fieldnorms : Bool
  pub fast : Bool
  pub coerce : Bool
  pub record_option : IndexRecordOption
  pub tokenizer : List ℕ
  pub gap : ℕ
  pub expand_dots : Bool

-- the fields, each at its number
abbrev pub Schema : Type 0
Schema = List Entry

-- facet fields are always indexed
abbrev pub is_indexed : Entry → Bool
is_indexed e = elim e.kind [ facet_kind ↦ true | _ ↦ e.indexed ]

-- JSON and facet fields keep no lengths
abbrev pub has_lengths : Kind → Bool
has_lengths facet_kind = false
has_lengths json_kind = false
has_lengths _ = true

-- whether the field keeps lengths
abbrev pub keeps_length : Entry → Bool
keeps_length e = has_lengths e.kind && (is_indexed e && e.fieldnorms)

-- whether the kind is text
abbrev pub is_text : Kind → Bool
is_text text_kind = true
is_text _ = false

-- what stands between two values of a text field
abbrev pub gap_of : Entry → ℕ
gap_of e = e.gap

-- the greatest gap that a field has
abbrev pub max_gap : ℕ
max_gap = 1000

-- whether there is a field of that number, and it passes
abbrev pub field_has : (Entry → Bool) → Schema → ℕ → Bool
field_has test schema field = option_map_or test (slice_get schema field) false

-- the number of the field of that name
abbrev pub field_named : Schema → List ℕ → Option ℕ
field_named schema name = position_from (λ e. bytes_eq e.name name) 0 schema

-- ---- making a schema

-- the most fields that a schema has
abbrev pub max_fields : ℕ
max_fields = 4294967295

-- a name may not be empty, nor begin with `-`
abbrev pub is_valid_field_name : List ℕ → Bool
is_valid_field_name name = not (bytes_eq name []) && not (starts_with nat_eq name (codes "-"))

-- the schema with one more field, or why it can't be added
abbrev pub with_field : Schema → Entry → Result Schema Fault
with_field schema e = if is_some (field_named schema e.name) then Err DuplicateName else (if not (is_valid_field_name e.name) then Err BadName else (if nat_le max_fields (length schema) then Err TooManyFields else Ok (schema ++ (e ∷ []))))

-- ---- which of these are schemas

-- what stands without an indexing
abbrev pub without_indexing : Entry → Entry
without_indexing e = record e { record_option = basic; tokenizer = []; gap = 1 }

-- without an indexing nothing is recorded
abbrev pub indexing_cleaned : Entry → Entry
indexing_cleaned e = if e.indexed then e else record e { fieldnorms = false; record_option = basic; tokenizer = []; gap = 1 }

-- the entry with the options that its kind has, and no others
abbrev pub cleaned_as : Kind → Entry → Entry
cleaned_as text_kind e = record (indexing_cleaned e) { expand_dots = false }
cleaned_as u64_kind e = record (without_indexing e) { expand_dots = false }
cleaned_as i64_kind e = record (without_indexing e) { expand_dots = false }
cleaned_as bool_kind e = record (without_indexing e) { expand_dots = false }
cleaned_as facet_kind e = record (without_indexing e) { indexed = true; fieldnorms = false; fast = false; coerce = false; expand_dots = false }
cleaned_as json_kind e = record (indexing_cleaned e) { coerce = false; gap = 1 }
cleaned_as _ e = record (without_indexing e) { coerce = false; expand_dots = false }

-- an entry of a schema: its name is good, its texts are texts, its gap isn't too great, and it has the options of its kind alone
pub record IsEntry (e : Entry) : Type 0 where
  pub good_name : IsTrue (is_valid_field_name e.name)
  pub text_name : IsUtf8 e.name
  pub text_tokenizer : IsUtf8 e.tokenizer
  pub few_apart : e.gap ≤ max_gap
  pub only_its_options : cleaned_as e.kind e ≡ e

-- no entry has the name of one after it
abbrev pub AreDistinct : Schema → Type 0
AreDistinct [] = ⊤
AreDistinct (e ∷ es) = AllByRecursion (λ f. f.name ≢ e.name) es × AreDistinct es

-- entries of distinct names, and no more than a schema has
pub record IsSchema (schema : Schema) : Type 0 where
  pub entries : AllByRecursion IsEntry schema
  pub distinct : AreDistinct schema
  pub count_fits : length schema ≤ max_fields
