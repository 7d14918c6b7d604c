use Rattle.std.proofs.Common.{arith}
use Rattle.std.proofs.lemmas.Result.{err_from_is_err_and}
use Rattle.store.proofs.TakenGroups.{group_shorter}
use Rattle.store.proofs.Lowest.{reads_all, reads_damage, reads_more}
use Rattle.store.proofs.skip_index.take_layer.Goals as goal

pub returns-in_err-after-clause-err : goal.returns-in_err-after-clause-err
returns-in_err-after-clause-err c =
    let p = err_from_is_err_and c.from_residual.result c.from_residual.ensures.1 in
    rw (p.1, p.2) (reads_damage c.args.bytes.now c.args.out.now.items c.loop-rest.out.items c.loop-rest.rest.now _ c.loop-rest.invariant c.loop-rest-test.true c.in_err-after.ensures.err)

pub loop-rest-smaller : goal.loop-rest-smaller
loop-rest-smaller c = (let took = c.in_ok-after.ensures.ok in group_shorter c.loop-rest.rest.now took.0 c.in_ok-after.after.now c.loop-rest.invariant.small took.1)

pub loop-rest-preserved : goal.loop-rest-preserved
loop-rest-preserved c = reads_more c.args.bytes.now c.args.out.now.items c.loop-rest.out.items _ c.loop-rest.rest.now c.in_ok-after.after.now c.loop-rest.invariant c.loop-rest-test.true c.in_ok-after.ensures.ok

pub returns-clause-ok : goal.returns-clause-ok
returns-clause-ok c = λ cs fits e. reads_all c.args.bytes.now c.args.out.now.items c.loop-rest.out.items c.loop-rest.rest.now c.loop-rest.invariant (omega arith) cs fits e
