use Rattle.std.proofs.Common.{ap, drop, rules, subst, sum, take, ◌+◌, ◌<◌, ◌^◌}
use Rattle.segment_postings.proofs.BoundedNumbers.{bounded_together}
use Rattle.segment_postings.proofs.positions_check.block_end.Goals as goal

pub returns-then-is_bounded-clause-some : goal.returns-then-is_bounded-clause-some
returns-then-is_bounded-clause-some c =
    let numbers = drop c.args.index c.args.reader.now in
    let count = c.sum_of-count.ensures.value in
    let few : sum (take c.sum_of-count.result numbers) < 2 ^ 31 = search rules in
    (bounded_together c.args.counts.now numbers (subst (λ k. sum (take k numbers) < 2 ^ 31) count few), ap (λ k. c.args.index + k) count)
