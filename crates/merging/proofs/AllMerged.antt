-- All fields of a merge, one after another.
use Rattle.std.proofs.Common.{[], ◌++◌, ◌≡◌, ◌∙◌, ◌∷◌, Bool, List, Some, ap, append-nil, append_assoc, cond, false, filter, inl, inr, map, refl, slice_get, subst, sym, true, ℕ}
use Rattle.std.proofs.lemmas.List.{map-append}
use Rattle.std.specs.List.{AllByRecursion, enumerate_from}
use Rattle.definitions.proofs.Lists.{all_push}
use Rattle.definitions.specs.Schema.{Entry, Schema, is_indexed}
use Rattle.definitions.specs.declared.fault.Fault.{Fault}
use Rattle.layouts.specs.InvertedIndexes.{IndexedField, field_ids, Sections}
use Rattle.merging.specs.Members.{merged_in}
use Rattle.merging.specs.MergedFields.{IsFieldGiven}
use Rattle.merging.specs.ToldFields.{AreMerged, IsMergeRefusal, IsMergedField}
use Rattle.merging.specs.declared.member.Member.{Member}
use Rattle.postings_writer.proofs.WrittenSections.{numbers, added_more}
use Rattle.postings_writer.specs.Fields.{option_of_key}
use Rattle.postings_writer.specs.Limits.{IsFieldRefusal}
use Rattle.postings_writer.specs.Sections.{AreFieldsAdded}

-- the indexed ones of some of all fields were written
pub record AreSome (schema : Schema) (norms : List (ℕ × List ℕ)) (ms : List Member) (all : List (List IndexedField)) (was now : Sections) (whole rest : List (ℕ × Entry)) : Type 0 where
  pub fields : List IndexedField
  pub names : numbers whole ≡ map (λ (f : IndexedField). f.field) fields ++ numbers rest
  pub each : AllByRecursion (IsMergedField schema norms ms all) fields
  pub added : AreFieldsAdded was now fields

pub none_merged : (schema : Schema) (norms : List (ℕ × List ℕ)) (ms : List Member) (all : List (List IndexedField)) (was : Sections) (whole : List (ℕ × Entry)) → AreSome schema norms ms all was was whole whole
none_merged schema norms ms all was whole = record {
  fields = [];
  names = refl;
  each = tt;
  added = record { terms = sym (append-nil was.terms); postings = sym (append-nil was.postings); positions = sym (append-nil was.positions) };
}

module _ (schema : Schema) (norms : List (ℕ × List ℕ)) (ms : List Member) (all : List (List IndexedField)) (was now : Sections) (whole rest after : List (ℕ × Entry)) (p : ℕ × Entry) (before : AreSome schema norms ms all was now whole rest) (first : rest ≡ p ∷ after) where
  numbers_first : (b : Bool) → is_indexed p.1 ≡ b → numbers rest ≡ cond b (p.0 ∷ numbers after) (numbers after)
  numbers_first b e = ap numbers first ∙ ap (λ c. map (λ (q : ℕ × Entry). q.0) (cond c (p ∷ filter (λ (q : ℕ × Entry). is_indexed q.1) after) (filter (λ (q : ℕ × Entry). is_indexed q.1) after))) e ∙ go b
    where
      go : (c : Bool) → map (λ (q : ℕ × Entry). q.0) (cond c (p ∷ filter (λ (q : ℕ × Entry). is_indexed q.1) after) (filter (λ (q : ℕ × Entry). is_indexed q.1) after)) ≡ cond c (p.0 ∷ numbers after) (numbers after)
      go true = refl
      go false = refl

  -- a field that isn't indexed is left out
  pub left_out : is_indexed p.1 ≡ false → AreSome schema norms ms all was now whole after
  left_out e = record { fields = before.fields; names = before.names ∙ ap (λ ns. map (λ (f : IndexedField). f.field) before.fields ++ ns) (numbers_first false e); each = before.each; added = before.added }

  -- one field more
  pub field_more : (new : Sections) (f : IndexedField) → is_indexed p.1 ≡ true → slice_get schema p.0 ≡ Some p.1 → f.field ≡ p.0 → IsFieldGiven p.1 (field_ids norms p.0) (λ key. merged_in p.0 key ms all) f → AreFieldsAdded now new (f ∷ []) → AreSome schema norms ms all was new whole after
  field_more new f e at named is more = record {
    fields = before.fields ++ f ∷ [];
    names = before.names ∙ ap (λ ns. map (λ (g : IndexedField). g.field) before.fields ++ ns) (numbers_first true e ∙ ap (λ n. n ∷ numbers after) (sym named)) ∙ sym (append_assoc (map (λ (g : IndexedField). g.field) before.fields) (f.field ∷ []) (numbers after)) ∙ ap (λ ns. ns ++ numbers after) (sym (map-append (λ (g : IndexedField). g.field) before.fields (f ∷ [])));
    each = all_push (IsMergedField schema norms ms all) before.fields f before.each (record { entry = p.1; at = subst (λ n. slice_get schema n ≡ Some p.1) (sym named) at; is_given = subst (λ n. IsFieldGiven p.1 (field_ids norms n) (λ key. merged_in n key ms all) f) (sym named) is });
    added = added_more was now new before.fields f before.added more;
  }

pub all_merged : (schema : Schema) (norms : List (ℕ × List ℕ)) (ms : List Member) (all : List (List IndexedField)) (was now : Sections) (rest : List (ℕ × Entry)) → rest ≡ [] → AreSome schema norms ms all was now (enumerate_from 0 schema) rest → AreMerged schema norms ms all was now
all_merged schema norms ms all was now rest none done = record {
  fields = done.fields;
  names = sym (done.names ∙ ap (λ ps. map (λ (f : IndexedField). f.field) done.fields ++ numbers ps) none ∙ append-nil (map (λ (f : IndexedField). f.field) done.fields));
  each_field = done.each;
  added = done.added;
}

pub field_refused : (fault : Fault) (schema : Schema) (norms : List (ℕ × List ℕ)) (ms : List Member) (all : List (List IndexedField)) (field : ℕ) (entry : Entry) → slice_get schema field ≡ Some entry → is_indexed entry ≡ true → IsFieldRefusal fault (option_of_key entry) (field_ids norms field) (λ key. merged_in field key ms all) → IsMergeRefusal fault schema norms ms all
field_refused fault schema norms ms all field entry at indexed (inl memory) = inl memory
field_refused fault schema norms ms all field entry at indexed (inr (limit, passes)) = inr (limit, record { field = field; entry = entry; at = at; indexed = indexed; passes = passes })
