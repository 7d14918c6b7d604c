use Rattle.std.proofs.Common.{IfSome, List, Option, ap, length, subst, sym, ◌≤◌, ◌∙◌, ℕ}
use Rattle.std.proofs.Math.Logic.{∥∥₁_map}
use Rattle.std.proofs.lemmas.Result.{err_from_is_err_and}
use Rattle.merging.proofs.FieldMerged.{field_merged, terms_refused}
use Rattle.postings_writer.specs.FieldWriting.{FieldWriting, field_begun}
use Rattle.terms.specs.Kinds.{kind_of}
use Rattle.merging.proofs.merged_field.merge_field.Goals as goal

pub write_terms-requires-clause-known : goal.write_terms-requires-clause-known
write_terms-requires-clause-known c = ∥∥₁_map c.requires.known (λ k. (k.0, k.1, k.2, k.3, k.4, subst (λ (o : Option (List ℕ)). IfSome o (λ ids. k.1 ≤ length ids)) (sym (ap (λ (w : FieldWriting). w.writing.norms) c.new_field-field_serializer.ensures)) k.5))

pub returns-in_err-write_terms-clause-err : goal.returns-in_err-write_terms-clause-err
returns-in_err-write_terms-clause-err c schema num_docs all are =
    let norms : Option (List ℕ) = c.args.fieldnorm_reader in
    let begun = c.new_field-field_serializer.ensures ∙ ap (λ o. field_begun c.args.serializer c.field_id.result o norms) c.index_record_option.ensures in
    let p = err_from_is_err_and c.from_residual.result c.from_residual.ensures.1 in
    rw (p.1, p.2) (terms_refused c.in_err-write_terms.field-0.0 c.args.entry.now norms c.args.serializer c.field_id.result c.args.field c.args.members.now all c.new_field-field_serializer.result (kind_of c.value_type.result) begun c.value_type.ensures (c.in_err-write_terms.ensures.err schema num_docs all are))

pub returns-clause-ok : goal.returns-clause-ok
returns-clause-ok c schema num_docs all are =
    let norms : Option (List ℕ) = c.args.fieldnorm_reader in
    let begun = c.new_field-field_serializer.ensures ∙ ap (λ o. field_begun c.args.serializer c.field_id.result o norms) c.index_record_option.ensures in
    let ok = c.in_ok-write_terms.ensures.ok schema num_docs all are in
    field_merged schema num_docs c.args.entry.now norms c.args.serializer c.in_ok-close.field-0 c.field_id.result c.args.field c.args.members.now all c.new_field-field_serializer.result c.write_terms.new.serializer (kind_of c.value_type.result) ok.0 are c.field_id.ensures begun c.value_type.ensures ok.1 c.in_ok-close.ensures
