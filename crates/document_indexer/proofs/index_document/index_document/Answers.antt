use Rattle.std.proofs.Common.{◌∙◌, ◌∷◌, ◌≡◌, List, ap, flat_map, rules, subst, sym, ℕ}
use Rattle.std.proofs.lemmas.Result.{err_from_is_err_and}
use Rattle.definitions.specs.Values.{Document, Value}
use Rattle.document_values.specs.Shown.{value_of}
use Rattle.document_indexer.specs.Steps.{Step, value_steps}
use Rattle.document_indexer.proofs.CountedLengths.{Counted, all_counted, none_counted, value_counted}
use Rattle.document_indexer.proofs.Seen.{Seen, seen_more, seen_none, seen_refused}
use Rattle.document_indexer.proofs.index_document.index_document.Goals as goal

pub loop-field-init : goal.loop-field-init
loop-field-init g c =
    let schema = c.args.schema.now in
    let analyze = g.A.Analyzer.analyze c.args.analyzer.now in
    let own : ℕ × Value → List Step = value_steps schema analyze in
    let all : Document = c.args.doc.now in
    let is : c.into_iter-field-iterator.result ≡ all = c.into_iter-field-iterator.ensures.into_iter_gives ∙ c.field_values-field-items.ensures in
    let P : Document → Type 0 = λ left. Seen schema c.args.indexer.now c.args.indexer.now (flat_map own left) (flat_map own all) in
    let Q : Document → Type 0 = λ left. Counted schema analyze c.begin_lengths.new.lengths.items left all in (
      tt,
      tt,
      subst P (sym is) (seen_none schema c.args.indexer.now (flat_map own all) c.requires),
      subst Q (sym is) (none_counted schema analyze c.begin_lengths.new.lengths.items all (search rules)),
    )

pub loop-field-preserved : goal.loop-field-preserved
loop-field-preserved g c =
    let schema = c.args.schema.now in
    let analyze = g.A.Analyzer.analyze c.args.analyzer.now in
    let own : ℕ × Value → List Step = value_steps schema analyze in
    let p : ℕ × Value = (c.in-Some.field, value_of c.in-Some.value) in
    let rest : Document = c.next.new.self in
    let first : c.loop-field.field-iterator ≡ p ∷ rest = c.in-Some.ensures.steps in (
      tt,
      tt,
      seen_more schema c.args.indexer.now c.loop-field.indexer c.index_field_value.new.indexer (flat_map own c.loop-field.field-iterator) (own p) (flat_map own rest) (flat_map own c.args.doc.now) c.loop-field.invariant.2 (ap (flat_map own) first) c.in_ok-len.ensures.ok,
      value_counted schema analyze c.loop-field.lengths.items c.add_length.new.lengths.items c.in_ok-len.len p c.loop-field.field-iterator rest c.args.doc.now c.loop-field.invariant.3 first c.in_ok-len.ensures.len c.add_length.ensures,
    )

pub returns-in_err-len-clause-err : goal.returns-in_err-len-clause-err
returns-in_err-len-clause-err g c =
    let schema = c.args.schema.now in
    let own : ℕ × Value → List Step = value_steps schema (g.A.Analyzer.analyze c.args.analyzer.now) in
    let p : ℕ × Value = (c.in-Some.field, value_of c.in-Some.value) in
    let rest : Document = c.next.new.self in
    let first : c.loop-field.field-iterator ≡ p ∷ rest = c.in-Some.ensures.steps in
    let e = err_from_is_err_and c.from_residual-in_err-len.result c.from_residual-in_err-len.ensures.1 in
    rw (e.1, e.2) (seen_refused schema c.args.indexer.now c.loop-field.indexer (flat_map own c.loop-field.field-iterator) (own p) (flat_map own rest) (flat_map own c.args.doc.now) c.in_err-len.field-0.0 c.loop-field.invariant.2 (ap (flat_map own) first) c.in_err-len.ensures.err)

pub returns-clause-lengths : goal.returns-clause-lengths
returns-clause-lengths g c = all_counted c.args.schema.now (g.A.Analyzer.analyze c.args.analyzer.now) c.loop-field.lengths.items c.loop-field.field-iterator c.args.doc.now c.loop-field.invariant.3 (search rules)
