use Rattle.std.proofs.Common.{ap, arith, drop, sum, take, ◌+◌, ◌∙◌, ◌≡◌}
use Rattle.segment_postings.proofs.BoundedNumbers.{piece_least, piece_more}
use Rattle.segment_postings.proofs.positions_check.is_bounded.Goals.{After-sum_at-total}
use Rattle.segment_postings.proofs.positions_check.is_bounded.Goals as goal

-- the sum so far
so_far : (c : After-sum_at-total) → c.loop-done.total + c.sum_at-total.result ≡ sum (take (c.loop-done.done + c.min-len.result) (drop c.args.index c.args.reader.now))
so_far c =
    let numbers = c.args.reader.now in
    let value = c.loop-done.invariant.value in
    let here : c.sum_at-total.result ≡ sum (take c.min-len.result (drop (c.args.index + c.loop-done.done) numbers)) = c.sum_at-total.ensures.value ∙ ap (λ xs. sum (take c.min-len.result (drop (c.args.index + c.loop-done.done) xs))) c.loop-done.invariant.same in
    let joined = piece_more numbers c.args.index c.loop-done.done c.min-len.result in
    omega (arith, value, here, joined)

pub returns-then-total-clause-value : goal.returns-then-total-clause-value
returns-then-total-clause-value c =
    let here = so_far (goal.at.returns-then-total-clause-value c).After-sum_at-total in
    let len = c.min-len.ensures in
    let going = c.loop-done-test.true in
    let least = piece_least (drop c.args.index c.args.reader.now) (c.loop-done.done + c.min-len.result) c.args.count (omega arith) in
    let past = c.if-total.true in
    (λ f. absurd cc, λ small. absurd (omega (arith, here, least, past, small)))

pub loop-done-preserved : goal.loop-done-preserved
loop-done-preserved c =
    let here = so_far (goal.at.loop-done-preserved c).After-sum_at-total in
    let len = c.min-len.ensures in
    let going = c.loop-done-test.true in
    record {
      same = c.sum_at-total.ensures.same ∙ c.loop-done.invariant.same;
      within = omega arith;
      value = here;
      few = omega arith;
    }
