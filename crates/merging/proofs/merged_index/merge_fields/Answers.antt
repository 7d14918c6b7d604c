use Rattle.std.proofs.Common.{List, Some, rules, subst, sym, slice_get, ◌≡◌, ◌∙◌, ◌∷◌, [], ℕ}
use Rattle.std.specs.List.{AllByRecursion, enumerate_from}
use Rattle.std.proofs.Math.Logic.{∥∥₁_map}
use Rattle.std.proofs.lemmas.Result.{err_from_is_err_and}
use Rattle.definitions.specs.Schema.{Entry, Schema}
use Rattle.merging.proofs.AllMerged.{AreSome, all_merged, field_more, field_refused, left_out, none_merged}
use Rattle.postings_writer.proofs.WrittenSections.{entries_at}
use Rattle.merging.proofs.merged_index.merge_fields.Goals as goal

pub loop-field-init : goal.loop-field-init
loop-field-init c =
    let schema : Schema = c.args.schema.now in
    let norms : List (ℕ × List ℕ) = c.args.fieldnorm_readers.now in
    let is : c.into_iter-field-iterator.result ≡ enumerate_from 0 schema = c.into_iter-field-iterator.ensures.into_iter_gives ∙ c.fields-field-items.ensures in
    record {
      written = λ num_docs all are. subst (λ rest. AreSome schema norms c.args.members.now all c.args.serializer c.args.serializer (enumerate_from 0 schema) rest) (sym is) (none_merged schema norms c.args.members.now all c.args.serializer (enumerate_from 0 schema));
      left = subst (AllByRecursion (λ (p : ℕ × Entry). slice_get schema p.0 ≡ Some p.1)) (sym is) (entries_at schema);
    }

pub merge_one-requires-clause-known : goal.merge_one-requires-clause-known
merge_one-requires-clause-known c = ∥∥₁_map c.requires (λ k. (c.args.schema.now, k.0, k.1, k.2, k.3, k.4))

pub loop-field-preserved-then-is_indexed : goal.loop-field-preserved-then-is_indexed
loop-field-preserved-then-is_indexed c =
    let schema : Schema = c.args.schema.now in
    let norms : List (ℕ × List ℕ) = c.args.fieldnorm_readers.now in
    let rest : List (ℕ × Entry) = c.loop-field.field-iterator in
    let after : List (ℕ × Entry) = c.next.new.self in
    let p : ℕ × Entry = (c.in-Some.field, c.in-Some.entry.now) in
    let first : rest ≡ p ∷ after = search rules in
    let left = subst (AllByRecursion (λ (q : ℕ × Entry). slice_get schema q.0 ≡ Some q.1)) first c.loop-field.invariant.left in
    record {
      written = λ num_docs all are. (let f = c.in_ok-serializer.ensures.ok schema num_docs all are in field_more schema norms c.args.members.now all c.args.serializer c.loop-field.serializer (enumerate_from 0 schema) rest after p (c.loop-field.invariant.written num_docs all are) first c.in_ok-serializer.serializer f.0 (sym c.is_indexed.ensures ∙ c.if-is_indexed.true) left.0 f.1 f.2 f.3);
      left = left.1;
    }

pub loop-field-preserved : goal.loop-field-preserved
loop-field-preserved c =
    let schema : Schema = c.args.schema.now in
    let norms : List (ℕ × List ℕ) = c.args.fieldnorm_readers.now in
    let rest : List (ℕ × Entry) = c.loop-field.field-iterator in
    let after : List (ℕ × Entry) = c.next.new.self in
    let p : ℕ × Entry = (c.in-Some.field, c.in-Some.entry.now) in
    let first : rest ≡ p ∷ after = search rules in
    record {
      written = λ num_docs all are. left_out schema norms c.args.members.now all c.args.serializer c.loop-field.serializer (enumerate_from 0 schema) rest after p (c.loop-field.invariant.written num_docs all are) first (sym c.is_indexed.ensures ∙ c.if-is_indexed.false);
      left = (subst (AllByRecursion (λ (q : ℕ × Entry). slice_get schema q.0 ≡ Some q.1)) first c.loop-field.invariant.left).1;
    }

pub returns-clause-ok : goal.returns-clause-ok
returns-clause-ok c num_docs all are =
    let none : c.loop-field.field-iterator ≡ [] = search rules in
    all_merged c.args.schema.now c.args.fieldnorm_readers.now c.args.members.now all c.args.serializer c.loop-field.serializer c.loop-field.field-iterator none (c.loop-field.invariant.written num_docs all are)

pub returns-in_err-serializer-clause-err : goal.returns-in_err-serializer-clause-err
returns-in_err-serializer-clause-err c num_docs all are =
    let rest : List (ℕ × Entry) = c.loop-field.field-iterator in
    let after : List (ℕ × Entry) = c.next.new.self in
    let first : rest ≡ (c.in-Some.field, c.in-Some.entry.now) ∷ after = search rules in
    let left = subst (AllByRecursion (λ (q : ℕ × Entry). slice_get c.args.schema.now q.0 ≡ Some q.1)) first c.loop-field.invariant.left in
    let p = err_from_is_err_and c.from_residual.result c.from_residual.ensures.1 in
    rw (p.1, p.2) (field_refused c.in_err-serializer.field-0.0 c.args.schema.now c.args.fieldnorm_readers.now c.args.members.now all c.in-Some.field c.in-Some.entry.now left.0 (sym c.is_indexed.ensures ∙ c.if-is_indexed.true) (c.in_err-serializer.ensures.err c.args.schema.now num_docs all are))
