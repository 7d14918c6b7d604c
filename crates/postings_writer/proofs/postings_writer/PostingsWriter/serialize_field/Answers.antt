use Rattle.std.proofs.Common.{[], IfErr, IfOk, IfSome, List, Option, ap, arith, length, subst, sym, ◌≡◌, ◌≤◌, ◌∙◌, ◌∷◌, ℕ}
use Rattle.std.proofs.Math.Logic.{∥∥₁_elim}
use Rattle.std.proofs.Props.{props}
use Rattle.std.proofs.lemmas.Option.{slice_get_within}
use Rattle.codes.specs.UnpackedBlocks.{listed}
use Rattle.layouts.specs.FieldNorms.{ids_of}
use Rattle.layouts.specs.InvertedIndexes.{IndexedField, field_ids}
use Rattle.postings_writer.specs.Fields.{option_of_key}
use Rattle.postings_writer.specs.Limits.{IsFieldRefusal}
use Rattle.postings_writer.specs.Occurrences.{postings_at}
use Rattle.postings_writer.specs.Sections.{AreFieldsAdded, IsFieldOf}
use Rattle.postings_writer.specs.Serializing.{postings_from}
use Rattle.postings_writer.specs.Writers.{Writer}
use Rattle.postings_writer.proofs.StandingFields.{CanWrite-prop, field_can, field_has, ids_listed, ids_long, occurrences_in, recorders_at}
use Rattle.postings_writer.proofs.postings_writer.PostingsWriter.serialize_field.Goals as goal

pub index-postings-requires : goal.index-postings-requires
index-postings-requires c = ∥∥₁_elim c.requires.stands (hlevel props) (λ given.
    let made = given.2.fields_are in
    let within = slice_get_within given.0 c.args.field c.args.entry.now given.3 in
    let same = ap (λ (x : Writer). length x.fields) c.self.view_is in
    let long = c.self.inside.fields.ok.0 in
    let id = c.field_id-field_id.ensures in
    omega (arith, made, within, same, long, id))

pub serialize-requires-clause-can : goal.serialize-requires-clause-can
serialize-requires-clause-can c key recorder found =
    let w : Writer = c.args.self.now in
    let field : ℕ = c.args.field in
    let norms : List (ℕ × List ℕ) = c.args.fieldnorm_readers.now in
    let inside : Writer = record { fields = c.self.inside.fields.items; num_docs = c.self.inside.num_docs } in
    let few : w.num_docs ≤ 2147483647 = (let same = ap (λ (x : Writer). x.num_docs) c.self.view_is in let below = c.self.invariant in omega arith) in
    let is : ids_of field norms ≡ c.get_field-fieldnorm_reader.result = ap (λ n. ids_of n norms) (sym c.field_id-field_id.ensures) ∙ sym c.get_field-fieldnorm_reader.ensures in
    let P : Option (List ℕ) → Type 0 = λ o. IfSome o (λ ids. w.num_docs ≤ length ids) in
    let long : P c.get_field-fieldnorm_reader.result = subst P is (ids_long w.num_docs field norms c.requires.lengths) in
    ∥∥₁_elim c.requires.stands (CanWrite-prop 0 c.get_field-fieldnorm_reader.result (postings_from recorder 0)) (λ given.
    let here = recorders_at given.0 inside w field c.field_id-field_id.result c.args.entry.now c.index-postings.result.now c.self.view_is given.2.fields_are given.3 c.field_id-field_id.ensures c.index-postings.ensures in
    field_can given.0 w given.1 field c.args.entry.now c.index-postings.result.now given.2 given.3 here c.get_field-fieldnorm_reader.result few long key recorder found)

pub returns-clause-ok : goal.returns-clause-ok
returns-clause-ok c schema os stands at =
    let w : Writer = c.args.self.now in
    let e = c.args.entry.now in
    let field : ℕ = c.args.field in
    let norms : List (ℕ × List ℕ) = c.args.fieldnorm_readers.now in
    let inside : Writer = record { fields = c.self.inside.fields.items; num_docs = c.self.inside.num_docs } in
    let here = recorders_at schema inside w field c.field_id-field_id.result e c.index-postings.result.now c.self.view_is stands.fields_are at c.field_id-field_id.ensures c.index-postings.ensures in
    let has = field_has schema w os field e c.index-postings.result.now stands at here in
    let ids : listed c.get_field-fieldnorm_reader.result ≡ field_ids norms field = ap listed (c.get_field-fieldnorm_reader.ensures ∙ ap (λ n. ids_of n norms) c.field_id-field_id.ensures) ∙ ids_listed field norms in
    let P : List ℕ → Type 0 = λ xs. IfOk c.serialize.result (λ s. (f : IndexedField) × (f.field ≡ field) × IsFieldOf e xs (occurrences_in field e os) f × AreFieldsAdded c.args.serializer s (f ∷ [])) in
    let Q : ℕ → Type 0 = λ n. IfOk c.serialize.result (λ s. (f : IndexedField) × (f.field ≡ n) × IsFieldOf e (listed c.get_field-fieldnorm_reader.result) (occurrences_in field e os) f × AreFieldsAdded c.args.serializer s (f ∷ [])) in
    subst P ids (subst Q c.field_id-field_id.ensures (c.serialize.ensures.ok (occurrences_in field e os) has))

pub returns-clause-err : goal.returns-clause-err
returns-clause-err c schema os stands at =
    let w : Writer = c.args.self.now in
    let e = c.args.entry.now in
    let field : ℕ = c.args.field in
    let norms : List (ℕ × List ℕ) = c.args.fieldnorm_readers.now in
    let inside : Writer = record { fields = c.self.inside.fields.items; num_docs = c.self.inside.num_docs } in
    let here = recorders_at schema inside w field c.field_id-field_id.result e c.index-postings.result.now c.self.view_is stands.fields_are at c.field_id-field_id.ensures c.index-postings.ensures in
    let has = field_has schema w os field e c.index-postings.result.now stands at here in
    let ids : listed c.get_field-fieldnorm_reader.result ≡ field_ids norms field = ap listed (c.get_field-fieldnorm_reader.ensures ∙ ap (λ n. ids_of n norms) c.field_id-field_id.ensures) ∙ ids_listed field norms in
    let P : List ℕ → Type 0 = λ xs. IfErr c.serialize.result (λ fault. IsFieldRefusal fault (option_of_key e) xs (λ key. postings_at (option_of_key e key) (occurrences_in field e os key))) in
    subst P ids (c.serialize.ensures.err (occurrences_in field e os) has)
