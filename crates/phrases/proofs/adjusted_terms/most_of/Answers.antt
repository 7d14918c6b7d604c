use Rattle.std.proofs.Common.{arith}
use Rattle.docsets.specs.Entries.{most_positions}
use Rattle.phrases.proofs.Greatest.{greatest-take}
use Rattle.phrases.proofs.adjusted_terms.most_of.Goals as goal

pub loop-i-preserved : goal.loop-i-preserved
loop-i-preserved g c =
    let items = c.args.docsets.now.items in
    let len = c.len-i-end.ensures in
    let more = greatest-take (λ s. most_positions (g.S.DocSet.entries s)) items c.loop-i.i c.index.result.now (omega (arith, len, c.loop-i-test.true)) c.index.ensures in
    let inv = c.loop-i.invariant in
    let here = c.most_positions.ensures in
    let next = c.max-most.ensures in
    omega (arith, more, inv, here, next)
