-- The terms of fields that living documents of members have.
use Rattle.std.specs.Prelude.{◌≡◌, ◌⊎◌, List, Some, map, slice_get, true, ℕ}
use Rattle.std.specs.List.{AllByRecursion}
use Rattle.definitions.specs.Schema.{Entry, Schema, is_indexed}
use Rattle.definitions.specs.declared.fault.Fault.{Fault}
use Rattle.definitions.specs.declared.fault.Fault.TheVariants as faults
use Rattle.segment_reader.specs.Dictionaries.{Placed}
use Rattle.segment_reader.specs.Readers.{dictionary_in}
use Rattle.layouts.specs.InvertedIndexes.{IndexedField, field_ids, indexed_fields, Sections}
use Rattle.merging.specs.Members.{merged_in}
use Rattle.merging.specs.MergedFields.{IsFieldGiven}
use Rattle.merging.specs.MergedTerms.{Told, told_in}
use Rattle.merging.specs.declared.member.Member.{Member}
use Rattle.merging.specs.KeyLists.{merged_keys}
use Rattle.postings_writer.specs.Fields.{option_of_key}
use Rattle.postings_writer.specs.Limits.{FieldPasses}
use Rattle.postings_writer.specs.Sections.{AreFieldsAdded}

-- the dictionary of a field in each member
abbrev pub dictionaries_of : ℕ → List Member → List (List Placed)
dictionaries_of field ms = map (λ (m : Member). dictionary_in m.inverted_index.now field) ms

-- the terms of all of them that a living document has, with their postings
abbrev pub told_of_all : ℕ → List Member → List (List IndexedField) → Told
told_of_all field ms all = told_in field (merged_keys (dictionaries_of field ms)) ms all

-- ---- all fields

-- a field has the terms that living documents have
pub record IsMergedField (schema : Schema) (norms : List (ℕ × List ℕ)) (ms : List Member) (all : List (List IndexedField)) (f : IndexedField) : Type 0 where
  pub entry : Entry
  pub at : slice_get schema f.field ≡ Some entry
  pub is_given : IsFieldGiven entry (field_ids norms f.field) (λ key. merged_in f.field key ms all) f

-- the indexed fields of a schema were written behind those before
pub record AreMerged (schema : Schema) (norms : List (ℕ × List ℕ)) (ms : List Member) (all : List (List IndexedField)) (was now : Sections) : Type 0 where
  pub fields : List IndexedField
  pub names : map (λ (f : IndexedField). f.field) fields ≡ indexed_fields schema
  pub each_field : AllByRecursion (IsMergedField schema norms ms all) fields
  pub added : AreFieldsAdded was now fields

-- an indexed field passes a limit
pub record AnyFieldPasses (schema : Schema) (norms : List (ℕ × List ℕ)) (ms : List Member) (all : List (List IndexedField)) : Type 0 where
  pub field : ℕ
  pub entry : Entry
  pub at : slice_get schema field ≡ Some entry
  pub indexed : is_indexed entry ≡ true
  pub passes : FieldPasses (option_of_key entry) (field_ids norms field) (λ key. merged_in field key ms all)

-- memory was wanting, or an indexed field passes a limit
abbrev pub IsMergeRefusal : Fault → Schema → List (ℕ × List ℕ) → List Member → List (List IndexedField) → Type 0
IsMergeRefusal fault schema norms ms all = (fault ≡ faults.OutOfMemory) ⊎ ((fault ≡ faults.Limit) × AnyFieldPasses schema norms ms all)
