use Rattle.std.proofs.Common.{arith, length, sym, ◌-◌}
use Rattle.best_k.proofs.Placing.{last_is_least, signed_at, some_of}
use Rattle.best_k.proofs.ranked_hits.last_score.Goals as goal

pub returns-clause-value : goal.returns-clause-value
returns-clause-value c =
    let hits = c.args.hits.now in
    let some = some_of (length hits) c.if-is_empty.ensures in
    sym (last_is_least hits (length hits - 1) c.requires.falls (omega (arith, some)))

pub returns-clause-small : goal.returns-clause-small
returns-clause-small c =
    let hits = c.args.hits.now in
    let some = some_of (length hits) c.if-is_empty.ensures in
    signed_at hits (length hits - 1) c.requires.signed (omega (arith, some))
