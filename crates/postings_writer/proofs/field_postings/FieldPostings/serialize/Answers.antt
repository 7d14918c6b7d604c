use Rattle.std.proofs.Common.{List, Option, map, sym, subst, ap, ◌⊎◌, ◌≡◌, ◌∙◌, ℕ}
use Rattle.std.specs.List.{AllByRecursion}
use Rattle.std.proofs.lemmas.Result.{err_from_is_err_and}
use Rattle.definitions.proofs.DocumentBounds.{all-map as all_then}
use Rattle.definitions.specs.Schema.{Kind}
use Rattle.definitions.specs.declared.fault.Fault.TheVariants as faults
use Rattle.postings_writer.specs.FieldWriting.{FieldWriting, field_begun, field_closed}
use Rattle.postings_writer.specs.Sections.{AnyTermPasses, AreAdded}
use Rattle.postings_writer.specs.Serializing.{CanWrite, postings_from}
use Rattle.postings_writer.proofs.FieldsOfPlaces.{field_of_items, terms_pass}
use Rattle.terms.specs.Kinds.{kind_of}
use Rattle.postings_writer.proofs.field_postings.FieldPostings.serialize.Goals as goal

pub serialize_terms-requires-clause-can : goal.serialize_terms-requires-clause-can
serialize_terms-requires-clause-can c =
    let P : FieldWriting → Type 0 = λ w. AllByRecursion (λ t. CanWrite 0 w.writing.norms (postings_from t.1.now 0)) c.deref-2.result.now in
    subst P (sym c.new_field-field_serializer.ensures)
    (subst (λ items. AllByRecursion (λ t. CanWrite 0 c.args.fieldnorm_reader (postings_from t.1.now 0)) items) (sym c.deref-2.ensures.value)
    (all_then _ _ c.in_ok-terms.terms.items (λ t found. c.requires.can t.0.now t.1.now found) c.in_ok-terms.ensures.each))

pub returns-clause-ok : goal.returns-clause-ok
returns-clause-ok c occurrences has =
    let e = c.args.entry.now in
    let s = c.args.serializer in
    let norms : Option (List ℕ) = c.args.fieldnorm_reader in
    let field = c.args.field in
    let items = c.in_ok-terms.terms.items in
    let w = c.serialize_terms.new.serializer in
    let ok = c.in_ok-serialize_terms.ensures.ok in
    let begun : c.new_field-field_serializer.result ≡ field_begun s field e.record_option norms = c.new_field-field_serializer.ensures ∙ ap (λ o. field_begun s field o norms) c.index_record_option-option.ensures in
    let P : Kind → Type 0 = λ k. AreAdded k (field_begun s field e.record_option norms) w (map (λ t. (t.0.now, t.1.now)) items) ok.0 in
    let Q : FieldWriting → Type 0 = λ x. AreAdded (kind_of c.value_type.result) x w (map (λ t. (t.0.now, t.1.now)) items) ok.0 in
    let added = subst P c.value_type.ensures (subst Q begun (subst (λ xs. AreAdded (kind_of c.value_type.result) c.new_field-field_serializer.result w (map (λ t. (t.0.now, t.1.now)) xs) ok.0) c.deref-2.ensures.value ok.1)) in
    let closed : c.in_ok-close.field-0 ≡ field_closed w = c.in_ok-close.ensures in
    field_of_items (λ t. (t.0.now, t.1.now)) items e occurrences c.args.self.now s c.in_ok-close.field-0 field norms w ok.0 has added closed c.in_ok-terms.ensures.ascend c.in_ok-terms.ensures.each c.in_ok-terms.ensures.all

pub returns-in_err-serialize_terms-clause-err : goal.returns-in_err-serialize_terms-clause-err
returns-in_err-serialize_terms-clause-err c occurrences has =
    let e = c.args.entry.now in
    let norms : Option (List ℕ) = c.args.fieldnorm_reader in
    let items = c.in_ok-terms.terms.items in
    let t = c.in_ok-terms.ensures in
    let w = c.new_field-field_serializer.result in
    let begun = c.new_field-field_serializer.ensures in
    let fault = c.in_err-serialize_terms.field-0.0 in
    let P : Kind → Type 0 = λ k. (fault ≡ faults.OutOfMemory) ⊎ ((fault ≡ faults.Limit) × AnyTermPasses k w (map (λ t. (t.0.now, t.1.now)) items)) in
    let p = err_from_is_err_and c.from_residual-in_err-serialize_terms.result c.from_residual-in_err-serialize_terms.ensures.1 in
    rw (p.1, p.2) (terms_pass (λ t. (t.0.now, t.1.now)) items e occurrences c.args.self.now has t.ascend t.each fault norms w (ap (λ (x : FieldWriting). x.terms.num_terms) begun) (ap (λ (x : FieldWriting). x.num_tokens) begun) (ap (λ (x : FieldWriting). x.writing.mode) begun ∙ c.index_record_option-option.ensures) (ap (λ (x : FieldWriting). x.writing.norms) begun) (subst P c.value_type.ensures (subst (λ xs. (fault ≡ faults.OutOfMemory) ⊎ ((fault ≡ faults.Limit) × AnyTermPasses (kind_of c.value_type.result) w (map (λ t. (t.0.now, t.1.now)) xs))) c.deref-2.ensures.value c.in_err-serialize_terms.ensures.err)))
