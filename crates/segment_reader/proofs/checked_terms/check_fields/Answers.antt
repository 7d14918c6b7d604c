use Rattle.std.proofs.Common.{IfSome, Option, List, length, sym, subst, ◌≡◌, ℕ}
use Rattle.std.proofs.lemmas.Result.{err_from_is_err_and}
use Rattle.segment_reader.proofs.CheckedLists.{kept_ids, no_field, one_more_field}
use Rattle.segment_reader.specs.CheckedTerms.{bytes_of}
use Rattle.segment_reader.proofs.checked_terms.check_fields.Goals as goal

pub check_field-requires-clause-kept : goal.check_field-requires-clause-kept
check_field-requires-clause-kept c = subst (λ (o : Option (List ℕ)). IfSome o (λ ids. length ids ≡ c.args.num_docs)) (sym c.get_field-fieldnorm_reader.ensures) (kept_ids c.args.num_docs c.index-item.result.kind.field c.args.fieldnorm_readers.now c.requires.kept)

pub returns-in_err-check_field-clause-err : goal.returns-in_err-check_field-clause-err
returns-in_err-check_field-clause-err c =
    let p = err_from_is_err_and c.from_residual.result c.from_residual.ensures.1 in
    rw (p.1, p.2) (λ other. let refused = c.in_err-check_field.ensures.err other in (refused.0, no_field (bytes_of c.args.sections) c.args.num_docs c.args.fieldnorm_readers.now c.args.indexes.now c.loop-index.index-index c.index-item.result c.get_field-fieldnorm_reader.result c.loop-index-test.true c.index-item.is c.get_field-fieldnorm_reader.ensures refused.1))

pub loop-index-preserved : goal.loop-index-preserved
loop-index-preserved c = one_more_field (bytes_of c.args.sections) c.args.num_docs c.args.fieldnorm_readers.now c.args.indexes.now c.loop-index.index-index c.index-item.result c.get_field-fieldnorm_reader.result c.loop-index-test.true c.index-item.is c.get_field-fieldnorm_reader.ensures c.loop-index.invariant c.in_ok-check_field.ensures.ok
