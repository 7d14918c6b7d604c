-- The options that are read of a kind, by those that its fields have.
use Rattle.std.proofs.Common.{◌≡◌, Bool, List, None, Option, Some, codes, false, option_map, refl, ℕ}
use Rattle.definitions.specs.Json.{◌>>=◌}
use Rattle.definitions.specs.Schema.{Entry, Kind, bool_kind, bytes_kind, date_kind, i64_kind, ip_addr_kind, u64_kind}
use Rattle.definitions.specs.SchemaGrammar.{entry_named, flag_or, options_in}
use Rattle.serde_json.specs.Data as json
use Rattle.options.specs.Options.{NumericData, ValueData}
use Rattle.schema.specs.Entries.{numeric_entry, numeric_options_in, value_entry, value_options_in}

-- ---- dates, bytes and addresses

-- what is read in order, of flags that are there or not
abbrev values_read : List ℕ → Kind → Option Bool → Option Bool → Option Bool → (Bool → Option Bool) → Option Entry
values_read name kind stored fast indexed lengths = stored >>= λ (s : Bool). fast >>= λ (f : Bool). indexed >>= λ (i : Bool). lengths i >>= λ (n : Bool). Some (record (entry_named name kind) { stored = s; indexed = i; fieldnorms = n; fast = f })

abbrev values_said : Option Bool → Option Bool → Option Bool → (Bool → Option Bool) → Option ValueData
values_said stored fast indexed lengths = stored >>= λ (s : Bool). fast >>= λ (f : Bool). indexed >>= λ (i : Bool). lengths i >>= λ (n : Bool). Some (record { stored = s; indexed = i; fieldnorms = n; fast = f })

values_agree : (name : List ℕ) (kind : Kind) (stored fast indexed : Option Bool) (lengths : Bool → Option Bool) → values_read name kind stored fast indexed lengths ≡ option_map (value_entry kind name) (values_said stored fast indexed lengths)
values_agree name kind None fast indexed lengths = refl
values_agree name kind (Some s) None indexed lengths = refl
values_agree name kind (Some s) (Some f) None lengths = refl
values_agree name kind (Some s) (Some f) (Some i) lengths = last (lengths i)
  where
    last : (l : Option Bool) → (l >>= λ (n : Bool). Some (record (entry_named name kind) { stored = s; indexed = i; fieldnorms = n; fast = f })) ≡ option_map (value_entry kind name) (l >>= λ (n : Bool). Some (record { stored = s; indexed = i; fieldnorms = n; fast = f }))
    last None = refl
    last (Some n) = refl

pub date_read : (name : List ℕ) (d : json.Data) → options_in (entry_named name date_kind) d ≡ option_map (value_entry date_kind name) (value_options_in d)
date_read name d = values_agree name date_kind (flag_or false (codes "stored") d) (flag_or false (codes "fast") d) (flag_or false (codes "indexed") d) (λ (i : Bool). flag_or i (codes "fieldnorms") d)

pub bytes_read : (name : List ℕ) (d : json.Data) → options_in (entry_named name bytes_kind) d ≡ option_map (value_entry bytes_kind name) (value_options_in d)
bytes_read name d = values_agree name bytes_kind (flag_or false (codes "stored") d) (flag_or false (codes "fast") d) (flag_or false (codes "indexed") d) (λ (i : Bool). flag_or i (codes "fieldnorms") d)

pub ip_addr_read : (name : List ℕ) (d : json.Data) → options_in (entry_named name ip_addr_kind) d ≡ option_map (value_entry ip_addr_kind name) (value_options_in d)
ip_addr_read name d = values_agree name ip_addr_kind (flag_or false (codes "stored") d) (flag_or false (codes "fast") d) (flag_or false (codes "indexed") d) (λ (i : Bool). flag_or i (codes "fieldnorms") d)

-- ---- numbers and bools

abbrev numbers_read : List ℕ → Kind → Option Bool → Option Bool → Option Bool → Option Bool → (Bool → Option Bool) → Option Entry
numbers_read name kind stored fast coerce indexed lengths = stored >>= λ (s : Bool). fast >>= λ (f : Bool). coerce >>= λ (c : Bool). indexed >>= λ (i : Bool). lengths i >>= λ (n : Bool). Some (record (entry_named name kind) { stored = s; indexed = i; fieldnorms = n; fast = f; coerce = c })

abbrev numbers_said : Option Bool → Option Bool → Option Bool → Option Bool → (Bool → Option Bool) → Option NumericData
numbers_said stored fast coerce indexed lengths = values_said stored fast indexed lengths >>= λ (o : ValueData). coerce >>= λ (c : Bool). Some (record { stored = o.stored; indexed = o.indexed; fieldnorms = o.fieldnorms; fast = o.fast; coerce = c })

numbers_agree : (name : List ℕ) (kind : Kind) (stored fast coerce indexed : Option Bool) (lengths : Bool → Option Bool) → numbers_read name kind stored fast coerce indexed lengths ≡ option_map (numeric_entry kind name) (numbers_said stored fast coerce indexed lengths)
numbers_agree name kind None fast coerce indexed lengths = refl
numbers_agree name kind (Some s) None coerce indexed lengths = refl
numbers_agree name kind (Some s) (Some f) None None lengths = refl
numbers_agree name kind (Some s) (Some f) None (Some i) lengths = refused (lengths i)
  where
    refused : (l : Option Bool) → None ≡ option_map (numeric_entry kind name) ((l >>= λ (n : Bool). Some (record { stored = s; indexed = i; fieldnorms = n; fast = f })) >>= λ (o : ValueData). None)
    refused None = refl
    refused (Some n) = refl
numbers_agree name kind (Some s) (Some f) (Some c) None lengths = refl
numbers_agree name kind (Some s) (Some f) (Some c) (Some i) lengths = last (lengths i)
  where
    last : (l : Option Bool) → (l >>= λ (n : Bool). Some (record (entry_named name kind) { stored = s; indexed = i; fieldnorms = n; fast = f; coerce = c })) ≡ option_map (numeric_entry kind name) ((l >>= λ (n : Bool). Some (record { stored = s; indexed = i; fieldnorms = n; fast = f })) >>= λ (o : ValueData). Some (record { stored = o.stored; indexed = o.indexed; fieldnorms = o.fieldnorms; fast = o.fast; coerce = c }))
    last None = refl
    last (Some n) = refl

pub u64_read : (name : List ℕ) (d : json.Data) → options_in (entry_named name u64_kind) d ≡ option_map (numeric_entry u64_kind name) (numeric_options_in d)
u64_read name d = numbers_agree name u64_kind (flag_or false (codes "stored") d) (flag_or false (codes "fast") d) (flag_or false (codes "coerce") d) (flag_or false (codes "indexed") d) (λ (i : Bool). flag_or i (codes "fieldnorms") d)

pub i64_read : (name : List ℕ) (d : json.Data) → options_in (entry_named name i64_kind) d ≡ option_map (numeric_entry i64_kind name) (numeric_options_in d)
i64_read name d = numbers_agree name i64_kind (flag_or false (codes "stored") d) (flag_or false (codes "fast") d) (flag_or false (codes "coerce") d) (flag_or false (codes "indexed") d) (λ (i : Bool). flag_or i (codes "fieldnorms") d)

pub bool_read : (name : List ℕ) (d : json.Data) → options_in (entry_named name bool_kind) d ≡ option_map (numeric_entry bool_kind name) (numeric_options_in d)
bool_read name d = numbers_agree name bool_kind (flag_or false (codes "stored") d) (flag_or false (codes "fast") d) (flag_or false (codes "coerce") d) (flag_or false (codes "indexed") d) (λ (i : Bool). flag_or i (codes "fieldnorms") d)
