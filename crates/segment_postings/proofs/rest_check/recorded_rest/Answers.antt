use Rattle.std.proofs.Common.{ap, arith, length, refl, rules, ◌≡◌, ◌≢◌}
use Rattle.std.proofs.lemmas.Result.{err_from_is_err_and}
use Rattle.definitions.proofs.Lists.{no_numbers as empty_list}
use Rattle.segment_postings.proofs.RestWalks.{counts_all, counts_over, counts_past, counts_step, counts_unread}
use Rattle.segment_postings.proofs.rest_check.recorded_rest.Goals as goal

pub returns-in_err-number-clause-err : goal.returns-in_err-number-clause-err
returns-in_err-number-clause-err c =
    let p = err_from_is_err_and c.from_residual.result c.from_residual.ensures.1 in
    let refused = c.in_err-number.ensures.err in
    rw (p.1, p.2) (refused.0, λ total h. counts_unread c.args.doc_count c.args.bytes.now c.loop.counter c.loop.total c.loop.rest.now total c.loop.invariant.walks (omega arith) refused.1 h)

pub returns-then-count-clause-err : goal.returns-then-count-clause-err
returns-then-count-clause-err c =
    let past = c.if-count.true in
    (refl, λ total h. counts_past c.args.doc_count c.args.bytes.now c.loop.counter c.loop.total c.loop.rest.now c.in_ok-number.number total c.in_ok-number.after.now c.loop.invariant.walks (omega arith) c.in_ok-number.ensures.ok (omega (arith, past)) h)

pub loop-preserved : goal.loop-preserved
loop-preserved c =
    let less = c.if-count.false in
    let so_far = c.loop.invariant.few in
    record {
      walks = counts_step c.args.doc_count c.args.bytes.now c.loop.counter c.loop.total c.loop.rest.now c.in_ok-number.number c.in_ok-number.after.now c.loop.invariant.walks (omega arith) c.in_ok-number.ensures.ok (omega (arith, less));
      few = omega (arith, so_far);
    }

pub returns-then-not-is_empty-clause-err : goal.returns-then-not-is_empty-clause-err
returns-then-not-is_empty-clause-err c =
    let other : length c.loop.rest.now ≢ 0 = search rules in
    (refl, λ total h. other (ap length (counts_over c.args.doc_count c.args.bytes.now c.loop.counter c.loop.total c.loop.rest.now total c.loop.invariant.walks (omega arith) h)))

pub returns-clause-ok : goal.returns-clause-ok
returns-clause-ok c =
    let none : length c.loop.rest.now ≡ 0 = search rules in
    let few = c.loop.invariant.few in
    let room = c.requires in
    (counts_all c.args.doc_count c.args.bytes.now c.loop.counter c.loop.total c.loop.rest.now c.loop.invariant.walks (omega arith) (empty_list c.loop.rest.now none), omega (arith, few, room))
