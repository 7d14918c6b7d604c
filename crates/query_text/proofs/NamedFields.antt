-- What a phrase means in a field that it names, and that has no texts.
use Rattle.std.proofs.Common.{[], Bool, Err, List, None, Ok, Option, Result, Some, ap, false, if◌then◌else◌, ok_or, refl, slice_get, sym, ◌∙◌, ◌≡◌, ℕ}
use Rattle.std.specs.Option.{option_map_or}
use Rattle.std.specs.Result.{result_ok}
use Rattle.definitions.specs.Analyzers.{Analyzer}
use Rattle.definitions.specs.Schema.{Entry, Kind, Schema, field_named, is_text}
use Rattle.definitions.specs.declared.fault.Fault.{Fault}
use Rattle.query_text.specs.Answers.{field_query, named_query, path_query, text_query, value_query}
use Rattle.query_text.specs.Reading.{Phrase}
use Rattle.query_text.specs.declared.refusal.Reason.TheVariants as reasons
use Rattle.schema.specs.Entries.{entry_of}
use Rattle.schema.specs.declared.field_entry.FieldType.{FieldType}
use Rattle.schema.specs.declared.field_entry.FieldType.TheVariants as types

-- a field has the kind that its type says, whatever the name
same_kind : (name : List ℕ) (t : FieldType) → (entry_of name t).kind ≡ (entry_of [] t).kind
same_kind name (types.Str o) = refl
same_kind name (types.U64 o) = refl
same_kind name (types.I64 o) = refl
same_kind name (types.Bool o) = refl
same_kind name (types.Date o) = refl
same_kind name (types.Facet o) = refl
same_kind name (types.Bytes o) = refl
same_kind name (types.JsonObject o) = refl
same_kind name (types.IpAddr o) = refl

-- it has no texts if its type has none
pub without_texts : (e : Entry) (t : FieldType) → entry_of e.name t ≡ e → is_text (entry_of [] t).kind ≡ false → is_text e.kind ≡ false
without_texts e t typed plain = sym (ap (λ (d : Entry). is_text d.kind) typed) ∙ ap is_text (same_kind e.name t) ∙ plain

-- what is answered was there
answered : {X E : Type 0} → (o : Option X) (fault : E) → result_ok (ok_or o fault) ≡ o
answered (Some x) fault = refl
answered None fault = refl

-- the query of a value in the field
pub of_value : (schema : Schema) (analyze : Analyzer) (name : List ℕ) (phrase : Phrase) (field : ℕ) (e : Entry) (kind : Kind) (fault : Fault) → Ok field ≡ ok_or (field_named schema name) fault → slice_get schema field ≡ Some e → is_text e.kind ≡ false → kind ≡ e.kind → named_query schema analyze name phrase ≡ value_query field kind phrase.text phrase.is_prefix
of_value schema analyze name phrase field e kind fault found entry plain same =
    let is : field_named schema name ≡ Some field = sym (answered (field_named schema name) fault) ∙ sym (ap (λ (r : Result ℕ Fault). result_ok r) found) in
    ap (λ (o : Option ℕ). elim o [ None ↦ path_query schema analyze name phrase | Some i ↦ option_map_or (λ (d : Entry). field_query analyze i d phrase) (slice_get schema i) (Err reasons.UnknownField) ]) is
    ∙ ap (λ (o : Option Entry). option_map_or (λ (d : Entry). field_query analyze field d phrase) o (Err reasons.UnknownField)) entry
    ∙ ap (λ (b : Bool). if b then text_query analyze field e phrase else value_query field e.kind phrase.text phrase.is_prefix) plain
    ∙ ap (λ (k : Kind). value_query field k phrase.text phrase.is_prefix) (sym same)
