use Rattle.std.proofs.Common.{ap, arith, drop, sum, ◌+◌, ◌<◌, ◌^◌, ◌≡◌}
use Rattle.segment_postings.proofs.NumberFolds.{all_decided, at_more, decides_not, more_at, nothing_left}
use Rattle.segment_postings.specs.Blocks.{more_1}
use Rattle.segment_postings.proofs.block_totals.count_sum.Goals as goal

pub returns-then-number-clause-none : goal.returns-then-number-clause-none
returns-then-number-clause-none c = λ all. decides_not (λ n. n + 1 < 2 ^ 32) c.args.counts_less_1.now c.loop-number.number-index (omega arith) (λ small. absurd (let e = c.if-number.true in omega (arith, e, small))) c.loop-number.invariant.fit (more_at (λ n. n < 2 ^ 32) c.args.counts_less_1.now all)

pub returns-clause-some : goal.returns-clause-some
returns-clause-some c =
    let xs = c.args.counts_less_1.now in
    let none : sum (more_1 (drop c.loop-number.number-index xs)) ≡ 0 = ap (λ ys. sum (more_1 ys)) (nothing_left xs c.loop-number.number-index (omega arith)) in
    let whole = c.loop-number.invariant.whole in
    let few = c.loop-number.invariant.few in
    (at_more (λ n. n < 2 ^ 32) xs (all_decided (λ n. n + 1 < 2 ^ 32) xs c.loop-number.number-index (omega arith) c.loop-number.invariant.fit), omega (arith, none, whole), omega (arith, few))
