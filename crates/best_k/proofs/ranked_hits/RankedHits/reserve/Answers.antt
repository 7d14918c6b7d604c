use Rattle.std.proofs.Common.{ap, arith, length}
use Rattle.std.proofs.lemmas.Result.{on_ok_weaker}
use Rattle.best_k.proofs.TwoLists.{length_of_both}
use Rattle.best_k.specs.Kept.{score_of}
use Rattle.best_k.proofs.ranked_hits.RankedHits.reserve.Goals as goal

pub overflow_add-more : goal.overflow_add-more
overflow_add-more c =
    let hits = c.args.self.now in
    let both = length_of_both score_of hits.older.items hits.newer.items in
    let few = c.requires in
    let many = hits.newer.ok.0 in
    let len = c.len.ensures in
    omega (arith, both, few, many, len)

pub returns-clause-ok : goal.returns-clause-ok
returns-clause-ok c =
    let hits = c.args.self.now in
    let both = length_of_both score_of c.reserve.new.self.items c.reserve_newer.new.newer.items in
    let long = c.reserve.new.self.ok.0 in
    let same = ap length c.reserve_newer.ensures in
    let many = hits.newer.ok.0 in
    let len = c.len.ensures in
    on_ok_weaker c.reserve.result (λ room. omega (arith, both, long, same, many, len, room)) c.reserve.ensures.ok
