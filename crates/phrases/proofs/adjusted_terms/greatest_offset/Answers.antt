use Rattle.std.proofs.Common.{arith}
use Rattle.phrases.proofs.Greatest.{greatest-take}
use Rattle.phrases.proofs.adjusted_terms.greatest_offset.Goals as goal

pub loop-i-preserved : goal.loop-i-preserved
loop-i-preserved g c =
    let items = c.args.term_postings.now.items in
    let len = c.len-i-end.ensures in
    let more = greatest-take (λ t. t.0) items c.loop-i.i c.index.result.now (omega (arith, len, c.loop-i-test.true)) c.index.ensures in
    let inv = c.loop-i.invariant in
    let next = c.max-greatest.ensures in
    omega (arith, more, inv, next)
