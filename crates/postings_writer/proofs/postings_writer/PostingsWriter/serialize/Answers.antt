use Rattle.std.proofs.Common.{List, Some, arith, rules, subst, sym, slice_get, ◌≡◌, ◌∙◌, ◌∷◌, [], ℕ}
use Rattle.std.specs.List.{AllByRecursion, enumerate_from}
use Rattle.std.proofs.Math.Logic.{∥∥₁_map}
use Rattle.std.proofs.lemmas.Result.{err_from_is_err_and}
use Rattle.definitions.specs.Schema.{Entry, Schema}
use Rattle.postings_writer.specs.Writers.{Writer}
use Rattle.postings_writer.proofs.WrittenSections.{AreWrittenOf, all_written, entries_at, field_refused, field_written, left_out, none_written}
use Rattle.postings_writer.proofs.postings_writer.PostingsWriter.serialize.Goals as goal

pub loop-field-init : goal.loop-field-init
loop-field-init c =
    let schema : Schema = c.args.schema.now in
    let norms : List (ℕ × List ℕ) = c.args.fieldnorm_readers.now in
    let is : c.into_iter-field-iterator.result ≡ enumerate_from 0 schema = c.into_iter-field-iterator.ensures.into_iter_gives ∙ c.fields-field-items.ensures in
    record {
      written = λ os stands. subst (λ rest. AreWrittenOf schema norms os c.args.serializer c.args.serializer (enumerate_from 0 schema) rest) (sym is) (none_written schema norms os c.args.serializer (enumerate_from 0 schema));
      left = subst (AllByRecursion (λ (p : ℕ × Entry). slice_get schema p.0 ≡ Some p.1)) (sym is) (entries_at schema);
    }

pub serialize_field-requires-clause-stands : goal.serialize_field-requires-clause-stands
serialize_field-requires-clause-stands c =
    let schema : Schema = c.args.schema.now in
    let rest : List (ℕ × Entry) = c.loop-field.field-iterator in
    let first : rest ≡ (c.in-Some.field, c.in-Some.entry.now) ∷ c.next.new.self = search rules in
    let left = subst (AllByRecursion (λ (q : ℕ × Entry). slice_get schema q.0 ≡ Some q.1)) first c.loop-field.invariant.left in
    ∥∥₁_map c.requires.stands (λ given. (schema, given.0, given.1, left.0))

pub loop-field-preserved-then-is_indexed : goal.loop-field-preserved-then-is_indexed
loop-field-preserved-then-is_indexed c =
    let schema : Schema = c.args.schema.now in
    let norms : List (ℕ × List ℕ) = c.args.fieldnorm_readers.now in
    let rest : List (ℕ × Entry) = c.loop-field.field-iterator in
    let after : List (ℕ × Entry) = c.next.new.self in
    let p : ℕ × Entry = (c.in-Some.field, c.in-Some.entry.now) in
    let first : rest ≡ p ∷ after = search rules in
    let left = subst (AllByRecursion (λ (q : ℕ × Entry). slice_get schema q.0 ≡ Some q.1)) first c.loop-field.invariant.left in
    record {
      written = λ os stands. (let f = c.in_ok-serializer.ensures.ok schema os stands left.0 in field_written schema norms os c.args.serializer c.loop-field.serializer (enumerate_from 0 schema) rest after p (c.loop-field.invariant.written os stands) first c.in_ok-serializer.serializer f.0 (sym c.is_indexed.ensures ∙ c.if-is_indexed.true) left.0 f.1 f.2 f.3);
      left = left.1;
    }

pub loop-field-preserved : goal.loop-field-preserved
loop-field-preserved c =
    let schema : Schema = c.args.schema.now in
    let norms : List (ℕ × List ℕ) = c.args.fieldnorm_readers.now in
    let rest : List (ℕ × Entry) = c.loop-field.field-iterator in
    let after : List (ℕ × Entry) = c.next.new.self in
    let p : ℕ × Entry = (c.in-Some.field, c.in-Some.entry.now) in
    let first : rest ≡ p ∷ after = search rules in
    record {
      written = λ os stands. left_out schema norms os c.args.serializer c.loop-field.serializer (enumerate_from 0 schema) rest after p (c.loop-field.invariant.written os stands) first (sym c.is_indexed.ensures ∙ c.if-is_indexed.false);
      left = (subst (AllByRecursion (λ (q : ℕ × Entry). slice_get schema q.0 ≡ Some q.1)) first c.loop-field.invariant.left).1;
    }

pub returns-clause-ok : goal.returns-clause-ok
returns-clause-ok c num_docs os le stands =
    let none : c.loop-field.field-iterator ≡ [] = search rules in
    all_written c.args.schema.now c.args.self.now num_docs c.args.fieldnorm_readers.now os stands le c.args.serializer c.loop-field.serializer c.loop-field.field-iterator c.requires.new none (c.loop-field.invariant.written os stands)

pub returns-in_err-serializer-clause-err : goal.returns-in_err-serializer-clause-err
returns-in_err-serializer-clause-err c os stands =
    let w : Writer = c.args.self.now in
    let norms : List (ℕ × List ℕ) = c.args.fieldnorm_readers.now in
    let rest : List (ℕ × Entry) = c.loop-field.field-iterator in
    let after : List (ℕ × Entry) = c.next.new.self in
    let first : rest ≡ (c.in-Some.field, c.in-Some.entry.now) ∷ after = search rules in
    let left = subst (AllByRecursion (λ (q : ℕ × Entry). slice_get c.args.schema.now q.0 ≡ Some q.1)) first c.loop-field.invariant.left in
    let p = err_from_is_err_and c.from_residual.result c.from_residual.ensures.1 in
    rw (p.1, p.2) (field_refused c.args.schema.now w w.num_docs norms os stands (omega arith) c.in_err-serializer.field-0.0 c.in-Some.field c.in-Some.entry.now left.0 (sym c.is_indexed.ensures ∙ c.if-is_indexed.true) (c.in_err-serializer.ensures.err c.args.schema.now os stands left.0))
