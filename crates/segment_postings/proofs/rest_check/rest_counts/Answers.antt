use Rattle.std.proofs.Common.{arith, rules, true, ◌≡◌}
use Rattle.std.proofs.lemmas.Result.{err_from_is_err_and}
use Rattle.segment_postings.proofs.RestWalks.{counts_held, counts_stand}
use Rattle.definitions.specs.Schema.{has_freq}
use Rattle.options.specs.RecordOption.{record_option_of}
use Rattle.segment_postings.proofs.rest_check.rest_counts.Goals as goal

pub returns-in_err-total-clause-err : goal.returns-in_err-total-clause-err
returns-in_err-total-clause-err c =
    let p = err_from_is_err_and c.from_residual.result c.from_residual.ensures.1 in
    let refused = c.in_err-total.ensures.err in
    let recorded : has_freq (record_option_of c.args.option) ≡ true = search rules in
    rw (p.1, p.2) (refused.0, λ total h. refused.1 total (counts_held (record_option_of c.args.option) c.args.doc_count c.args.bytes.now total recorded h))

pub returns-clause-ok : goal.returns-clause-ok
returns-clause-ok c =
    let recorded : has_freq (record_option_of c.args.option) ≡ true = search rules in
    let read = c.in_ok-total.ensures.ok in
    (counts_stand (record_option_of c.args.option) c.args.doc_count c.args.bytes.now c.in_ok-total.total recorded (λ i. omega (arith, c.type_inv.bytes i)) read.0, read.1)
