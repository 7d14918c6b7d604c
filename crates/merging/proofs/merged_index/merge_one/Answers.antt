use Rattle.std.proofs.Common.{[], IfErr, IfOk, IfSome, List, Option, ap, length, subst, sym, ◌≡◌, ◌≤◌, ◌∙◌, ◌∷◌, ℕ}
use Rattle.std.proofs.Math.Logic.{∥∥₁_map}
use Rattle.layouts.specs.FieldNorms.{ids_of}
use Rattle.layouts.specs.InvertedIndexes.{IndexedField, field_ids}
use Rattle.merging.specs.Members.{merged_in}
use Rattle.merging.specs.MergedFields.{IsFieldGiven}
use Rattle.codes.specs.UnpackedBlocks.{listed}
use Rattle.postings_writer.proofs.StandingFields.{ids_listed, ids_long}
use Rattle.postings_writer.specs.Fields.{option_of_key}
use Rattle.postings_writer.specs.Limits.{IsFieldRefusal}
use Rattle.postings_writer.specs.Sections.{AreFieldsAdded}
use Rattle.merging.proofs.merged_index.merge_one.Goals as goal

pub merge_field-requires-clause-known : goal.merge_field-requires-clause-known
merge_field-requires-clause-known c =
    let norms : List (ℕ × List ℕ) = c.args.fieldnorm_readers.now in
    let is : ids_of c.args.field norms ≡ c.get_field-fieldnorm_reader.result = ap (λ n. ids_of n norms) (sym c.field_id.ensures) ∙ sym c.get_field-fieldnorm_reader.ensures in
    ∥∥₁_map c.requires.known (λ k. (k.0, k.1, k.2, k.3, k.4, subst (λ (o : Option (List ℕ)). IfSome o (λ ids. k.1 ≤ length ids)) is (ids_long k.1 c.args.field norms k.5)))

pub returns-clause-ok : goal.returns-clause-ok
returns-clause-ok c schema num_docs all are =
    let norms : List (ℕ × List ℕ) = c.args.fieldnorm_readers.now in
    let field : ℕ = c.args.field in
    let ids : listed c.get_field-fieldnorm_reader.result ≡ field_ids norms field = ap listed (c.get_field-fieldnorm_reader.ensures ∙ ap (λ n. ids_of n norms) c.field_id.ensures) ∙ ids_listed field norms in
    subst (λ xs. IfOk c.merge_field.result (λ s. (f : IndexedField) × (f.field ≡ field) × IsFieldGiven c.args.entry.now xs (λ key. merged_in field key c.args.members.now all) f × AreFieldsAdded c.args.serializer s (f ∷ []))) ids (c.merge_field.ensures.ok schema num_docs all are)

pub returns-clause-err : goal.returns-clause-err
returns-clause-err c schema num_docs all are =
    let norms : List (ℕ × List ℕ) = c.args.fieldnorm_readers.now in
    let field : ℕ = c.args.field in
    let ids : listed c.get_field-fieldnorm_reader.result ≡ field_ids norms field = ap listed (c.get_field-fieldnorm_reader.ensures ∙ ap (λ n. ids_of n norms) c.field_id.ensures) ∙ ids_listed field norms in
    subst (λ xs. IfErr c.merge_field.result (λ fault. IsFieldRefusal fault (option_of_key c.args.entry.now) xs (λ key. merged_in field key c.args.members.now all))) ids (c.merge_field.ensures.err schema num_docs all are)
