use Rattle.std.proofs.Common.{arith}
use Rattle.best_k.proofs.TwoLists.{length_of_both}
use Rattle.best_k.specs.Kept.{score_of}
use Rattle.best_k.proofs.ranked_hits.RankedHits.len.Goals as goal

pub returns : goal.returns
returns c =
    let hits = c.args.self.now in
    let both = length_of_both score_of hits.older.items hits.newer.items in
    let one = c.len.ensures in
    let other = c.len-2.ensures in
    let many = hits.older.ok.0 in
    let more = hits.newer.ok.0 in
    omega (arith, both, one, other, many, more)
