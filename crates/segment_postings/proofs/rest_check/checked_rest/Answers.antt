use Rattle.std.proofs.Common.{arith, ◌≤◌, ◌^◌}
use Rattle.std.proofs.lemmas.Result.{err_from_is_err_and}
use Rattle.segment_postings.proofs.RestChecks.{rest_held, rest_is, rest_read}
use Rattle.segment_postings.proofs.RestWalks.{docs_begin, docs_taken}
use Rattle.layouts.specs.Deltas.{documents, next_of}
use Rattle.options.specs.RecordOption.{record_option_of}
use Rattle.segment_postings.proofs.rest_check.checked_rest.Goals as goal

pub returns-in_err-rest-clause-err : goal.returns-in_err-rest-clause-err
returns-in_err-rest-clause-err c =
    let p = err_from_is_err_and c.from_residual.result c.from_residual.ensures.1 in
    let refused = c.in_err-rest.ensures.err in
    let few : c.args.num_docs ≤ 2 ^ 32 = omega arith in
    rw (p.1, p.2) (
      refused.0,
      λ ids total h.
          (let r = rest_read (record_option_of c.args.option) ids c.args.num_docs c.args.before c.args.doc_count c.args.bytes.now total few h in
          refused.1 r.left (docs_begin c.args.num_docs c.args.before c.args.doc_count c.args.bytes.now r.docs r.left r.taken r.within)),
    )

pub returns-in_err-total-clause-err : goal.returns-in_err-total-clause-err
returns-in_err-total-clause-err c =
    let p = err_from_is_err_and c.from_residual-in_err-total.result c.from_residual-in_err-total.ensures.1 in
    let refused = c.in_err-total.ensures.err in
    let few : c.args.num_docs ≤ 2 ^ 32 = omega arith in
    let begins = c.in_ok-rest.ensures.ok in
    let taken = docs_taken c.args.num_docs c.args.before c.args.doc_count c.args.bytes.now c.in_ok-rest.rest.now few begins in
    rw (p.1, p.2) (
      refused.0,
      λ ids total h.
          (let r = rest_read (record_option_of c.args.option) ids c.args.num_docs c.args.before c.args.doc_count c.args.bytes.now total few h in
          refused.1 total (rest_held (record_option_of c.args.option) c.args.num_docs c.args.before c.args.doc_count c.args.bytes.now (documents (next_of c.args.before) begins.deltas) c.in_ok-rest.rest.now total taken r).1),
    )

pub returns-clause-ok : goal.returns-clause-ok
returns-clause-ok c =
    let few : c.args.num_docs ≤ 2 ^ 32 = omega arith in
    let begins = c.in_ok-rest.ensures.ok in
    let taken = docs_taken c.args.num_docs c.args.before c.args.doc_count c.args.bytes.now c.in_ok-rest.rest.now few begins in
    let read = c.in_ok-total.ensures.ok in
    (λ ids. rest_is (record_option_of c.args.option) ids c.args.num_docs c.args.before c.args.doc_count c.args.bytes.now (documents (next_of c.args.before) begins.deltas) c.in_ok-rest.rest.now c.in_ok-total.total (λ i. omega (arith, c.type_inv.bytes i)) taken begins.within read.0, read.1)
