-- A schema that is written is read back.
use Rattle.std.proofs.Common.{ℕ, List, [], ◌∷◌, ◌++◌, ◌≡◌, ◌≢◌, ◌≤◌, ◌+◌, Bool, true, false, cond, not, Option, Some, None, is_some, IsTrue, String, length, map, refl, sym, ap, ◌∙◌, subst, arith, append_assoc, append-nil, nat_le, nat_lt, bytes_eq, length-append, Ok, Err}
use Rattle.std.specs.List.{AllByRecursion, position_from}
use Rattle.std.specs.Result.{result_map_both}
use Rattle.std.proofs.Math.Nat.{min-le_right}
use Rattle.std.proofs.lemmas.Bool.Decides.{nat_tests}
use Rattle.std.proofs.lemmas.Slice.Eq.{bytes_eq-Decides}
use Rattle.definitions.specs.declared.fault.Fault.TheVariants as faults
use Rattle.definitions.specs.Json.{number_below, ◌>>=◌}
use Rattle.definitions.specs.Replies.{number_data}
use Rattle.definitions.specs.Schema.{AreDistinct, Entry, IndexRecordOption, IsEntry, IsSchema, Kind, Schema, basic, bool_kind, bytes_kind, cleaned_as, date_kind, facet_kind, field_named, i64_kind, ip_addr_kind, is_valid_field_name, json_kind, max_fields, max_gap, text_kind, u64_kind, with_freqs, with_freqs_and_positions}
use Rattle.definitions.specs.SchemaGrammar.{entry_data, entry_in, schema_data, schema_in, fault_read, then_with, with_entries_in, with_entry}
use Rattle.serde_json.specs.View.{items_of}
use Rattle.std.specs.BTreeMap.{BTreeMap}
use Rattle.std.specs.declared.alloc.Global.{Global}
use Rattle.options.specs.Options.{Indexing}
use Rattle.schema.specs.Entries.{IsTyped, entry_of, json_entry, text_entry}
use Rattle.schema.specs.Names.{Numbers}
use Rattle.schema.specs.declared.field_entry.FieldType.{FieldType}
use Rattle.schema.specs.declared.field_entry.FieldType.TheVariants as types

-- ---- one field

-- a field of these
abbrev entry_with : List ℕ → Kind → Bool → Bool → Bool → Bool → Bool → IndexRecordOption → List ℕ → ℕ → Bool → Entry
entry_with name kind stored indexed fieldnorms fast coerce option tokenizer gap dots = record { name = name; kind = kind; stored = stored; indexed = indexed; fieldnorms = fieldnorms; fast = fast; coerce = coerce; record_option = option; tokenizer = tokenizer; gap = gap; expand_dots = dots }

-- a gap that isn't too great is read as it is written
gap_back : (gap : ℕ) → gap ≤ max_gap → number_below (max_gap + 1) (number_data gap) ≡ Some gap
gap_back gap few = ap (λ small. cond small (Some gap) None) (below gap few)
  where
    below : (n : ℕ) → n ≤ max_gap → nat_lt n (max_gap + 1) ≡ true
    below n is = grind (arith, nat_tests)

-- what is read of a text field beside its gap, and then its gap
text_back : (name : List ℕ) (stored fieldnorms fast coerce : Bool) (option : IndexRecordOption) (tokenizer : List ℕ) (gap : ℕ) → gap ≤ max_gap → (number_below (max_gap + 1) (number_data gap) >>= λ (n : ℕ). Some (entry_with name text_kind stored true fieldnorms fast coerce option tokenizer n false)) ≡ Some (entry_with name text_kind stored true fieldnorms fast coerce option tokenizer gap false)
text_back name stored fieldnorms fast coerce option tokenizer gap few = ap (λ o. o >>= λ (n : ℕ). Some (entry_with name text_kind stored true fieldnorms fast coerce option tokenizer n false)) (gap_back gap few)

-- a field whose options its kind has is read back
entry_back : (name : List ℕ) (kind : Kind) (stored indexed fieldnorms fast coerce : Bool) (option : IndexRecordOption) (tokenizer : List ℕ) (gap : ℕ) (dots : Bool) → gap ≤ max_gap → cleaned_as kind (entry_with name kind stored indexed fieldnorms fast coerce option tokenizer gap dots) ≡ (entry_with name kind stored indexed fieldnorms fast coerce option tokenizer gap dots) → entry_in (entry_data (entry_with name kind stored indexed fieldnorms fast coerce option tokenizer gap dots)) ≡ Some (entry_with name kind stored indexed fieldnorms fast coerce option tokenizer gap dots)
entry_back name text_kind stored true fieldnorms fast coerce basic tokenizer gap dots few clean = text_back name stored fieldnorms fast coerce basic tokenizer gap few ∙ ap Some clean
entry_back name text_kind stored true fieldnorms fast coerce with_freqs tokenizer gap dots few clean = text_back name stored fieldnorms fast coerce with_freqs tokenizer gap few ∙ ap Some clean
entry_back name text_kind stored true fieldnorms fast coerce with_freqs_and_positions tokenizer gap dots few clean = text_back name stored fieldnorms fast coerce with_freqs_and_positions tokenizer gap few ∙ ap Some clean
entry_back name text_kind stored false fieldnorms fast coerce option tokenizer gap dots few clean = ap Some clean
entry_back name u64_kind stored indexed fieldnorms fast coerce option tokenizer gap dots few clean = ap Some clean
entry_back name i64_kind stored indexed fieldnorms fast coerce option tokenizer gap dots few clean = ap Some clean
entry_back name bool_kind stored indexed fieldnorms fast coerce option tokenizer gap dots few clean = ap Some clean
entry_back name date_kind stored indexed fieldnorms fast coerce option tokenizer gap dots few clean = ap Some clean
entry_back name facet_kind stored indexed fieldnorms fast coerce option tokenizer gap dots few clean = ap Some clean
entry_back name bytes_kind stored indexed fieldnorms fast coerce option tokenizer gap dots few clean = ap Some clean
entry_back name json_kind stored true fieldnorms fast coerce basic tokenizer gap dots few clean = ap Some clean
entry_back name json_kind stored true fieldnorms fast coerce with_freqs tokenizer gap dots few clean = ap Some clean
entry_back name json_kind stored true fieldnorms fast coerce with_freqs_and_positions tokenizer gap dots few clean = ap Some clean
entry_back name json_kind stored false fieldnorms fast coerce option tokenizer gap dots few clean = ap Some clean
entry_back name ip_addr_kind stored indexed fieldnorms fast coerce option tokenizer gap dots few clean = ap Some clean

-- a field with a good name that is read back as it is written
pub record ReadsBack (e : Entry) : Type 0 where
  pub name : IsTrue (is_valid_field_name e.name)
  pub back : entry_in (entry_data e) ≡ Some e

-- the options that a field has beside its name are those of its kind
pub reads_back : (e : Entry) → IsTrue (is_valid_field_name e.name) → e.gap ≤ max_gap → cleaned_as e.kind e ≡ e → ReadsBack e
reads_back e valid few clean = record { name = valid; back = entry_back e.name e.kind e.stored e.indexed e.fieldnorms e.fast e.coerce e.record_option e.tokenizer e.gap e.expand_dots few clean }

-- ---- the list of fields

-- where a test fails at each element it finds nothing
none_found : {X : Type 0} (t : X → Bool) (k : ℕ) (xs : List X) → AllByRecursion (λ x. t x ≡ false) xs → position_from t k xs ≡ None
none_found t k [] all = refl
none_found t k (x ∷ xs) all = ap (λ b. cond b (Some k) (position_from t (k + 1) xs)) all.0 ∙ none_found t (k + 1) xs all.1

-- what holds of every element of two lists holds of the first of the second
at_middle : {X : Type 0} (P : X → Type 0) (xs : List X) (x : X) (ys : List X) → AllByRecursion P (xs ++ (x ∷ ys)) → P x
at_middle P [] x ys all = all.0
at_middle P (y ∷ xs) x ys all = at_middle P xs x ys all.1

-- no field before has the name
fresh_name : (before : Schema) (e : Entry) (after : Schema) → AreDistinct (before ++ (e ∷ after)) → AllByRecursion (λ f. bytes_eq f.name e.name ≡ false) before
fresh_name [] e after distinct = tt
fresh_name (f ∷ before) e after distinct = (apart (bytes_eq f.name e.name) refl, fresh_name before e after distinct.1)
  where
    other : e.name ≢ f.name
    other = at_middle (λ g. g.name ≢ f.name) before e after distinct.0

    apart : (b : Bool) → bytes_eq f.name e.name ≡ b → b ≡ false
    apart false same = refl
    apart true same = absurd (other (sym ((bytes_eq-Decides f.name e.name).0 same)))

-- a field that may be added is added
entry_added : (before : Schema) (e : Entry) (after : Schema) → AreDistinct (before ++ (e ∷ after)) → IsTrue (is_valid_field_name e.name) → length (before ++ (e ∷ after)) ≤ max_fields → with_entry before (Some e) ≡ Ok (before ++ (e ∷ []))
entry_added before e after distinct valid few =
    let fresh : field_named before e.name ≡ None = none_found (λ f. bytes_eq f.name e.name) 0 before (fresh_name before e after distinct) in
    let all : length (before ++ (e ∷ after)) ≡ length before + length (e ∷ after) = length-append before (e ∷ after) in
    let room : nat_le max_fields (length before) ≡ false = grind (arith, nat_tests) in
    added (field_named before e.name) (is_valid_field_name e.name) (nat_le max_fields (length before)) fresh valid room
  where
    added : (o : Option ℕ) (v m : Bool) → o ≡ None → IsTrue v → m ≡ false → result_map_both (λ s. s) fault_read (cond (is_some o) (Err faults.DuplicateName) (cond (not v) (Err faults.BadName) (cond m (Err faults.TooManyFields) (Ok (before ++ (e ∷ [])))))) ≡ Ok (before ++ (e ∷ []))
    added (Some i) v m fresh valid room = cc
    added None false m fresh valid room = cc
    added None true true fresh valid room = cc
    added None true false fresh valid room = refl

entries_back : (before : Schema) (es : Schema) → AllByRecursion ReadsBack es → AreDistinct (before ++ es) → length (before ++ es) ≤ max_fields → with_entries_in before (items_of (map entry_data es)) ≡ Ok (before ++ es)
entries_back before [] all distinct few = ap Ok (sym (append-nil before))
entries_back before (e ∷ es) all distinct few =
    let whole : (before ++ (e ∷ [])) ++ es ≡ before ++ (e ∷ es) = append_assoc before (e ∷ []) es in
    let first : with_entry before (entry_in (entry_data e)) ≡ Ok (before ++ (e ∷ [])) = ap (with_entry before) all.0.back ∙ entry_added before e es distinct all.0.name few in
    ap (λ r. then_with r (λ more. with_entries_in more (items_of (map entry_data es)))) first
    ∙ entries_back (before ++ (e ∷ [])) es all.1 (subst AreDistinct (sym whole) distinct) (subst (λ l. length l ≤ max_fields) (sym whole) few)
    ∙ ap Ok whole

pub schema_back : (s : Schema) → AllByRecursion ReadsBack s → AreDistinct s → length s ≤ max_fields → schema_in (schema_data s) ≡ Ok s
schema_back s all distinct few = entries_back [] s all distinct few

all_back : (s : Schema) → AllByRecursion IsEntry s → AllByRecursion ReadsBack s
all_back [] all = tt
all_back (e ∷ es) all = (reads_back e all.0.good_name all.0.few_apart all.0.only_its_options, all_back es all.1)

pub written_back : (s : Schema) → IsSchema s → schema_in (schema_data s) ≡ Ok s
written_back s schema = schema_back s (all_back s schema.entries) schema.distinct schema.count_fits

-- ---- the fields of a schema's own types

-- the options of a type are those of its kind
typed_clean : (name : List ℕ) (t : FieldType) → cleaned_as (entry_of name t).kind (entry_of name t) ≡ entry_of name t
typed_clean name (types.Str o) = go o.indexing
  where
    go : (i : Option Indexing) → cleaned_as text_kind (text_entry name (record o { indexing = i })) ≡ text_entry name (record o { indexing = i })
    go None = refl
    go (Some i) = refl
typed_clean name (types.U64 o) = refl
typed_clean name (types.I64 o) = refl
typed_clean name (types.Bool o) = refl
typed_clean name (types.Date o) = refl
typed_clean name (types.Facet o) = refl
typed_clean name (types.Bytes o) = refl
typed_clean name (types.JsonObject o) = go o.indexing
  where
    go : (i : Option Indexing) → cleaned_as json_kind (json_entry name (record o { indexing = i })) ≡ json_entry name (record o { indexing = i })
    go None = refl
    go (Some i) = refl
typed_clean name (types.IpAddr o) = refl

-- no field has more than the greatest gap
typed_few : (name : List ℕ) (t : FieldType) → (entry_of name t).gap ≤ max_gap
typed_few name (types.Str o) = go o.indexing
  where
    go : (i : Option Indexing) → (text_entry name (record o { indexing = i })).gap ≤ max_gap
    go None = omega arith
    go (Some i) = min-le_right i.gap max_gap
typed_few name (types.U64 o) = omega arith
typed_few name (types.I64 o) = omega arith
typed_few name (types.Bool o) = omega arith
typed_few name (types.Date o) = omega arith
typed_few name (types.Facet o) = omega arith
typed_few name (types.Bytes o) = omega arith
typed_few name (types.JsonObject o) = omega arith
typed_few name (types.IpAddr o) = omega arith

typed_back : (fields : Schema) → AllByRecursion IsTyped fields → AllByRecursion (λ e. IsTrue (is_valid_field_name e.name)) fields → AllByRecursion ReadsBack fields
typed_back [] typed valid = tt
typed_back (e ∷ es) typed valid =
    let t = typed.0.0 in
    let is : entry_of e.name t ≡ e = sym typed.0.1 in
    let clean : cleaned_as e.kind e ≡ e = subst (λ f. cleaned_as f.kind f ≡ f) is (typed_clean e.name t) in
    let few : e.gap ≤ max_gap = subst (λ f. f.gap ≤ max_gap) is (typed_few e.name t) in
    (reads_back e valid.0 few clean, typed_back es typed.1 valid.1)

pub numbered_back : (numbers : BTreeMap (String Global) ℕ) (fields : Schema) → Numbers numbers fields → schema_in (schema_data fields) ≡ Ok fields
numbered_back numbers fields h = schema_back fields (typed_back fields h.typed h.valid) h.distinct h.count_fits
