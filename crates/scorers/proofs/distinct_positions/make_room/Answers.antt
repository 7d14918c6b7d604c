use Rattle.std.proofs.Common.{List, ap, arith, filter, length, not, vec_capacity, ◌++◌, ◌<◌, ◌∙◌, ◌≡◌, ℕ}
use Rattle.definitions.proofs.Lists.{on_err}
use Rattle.docsets.specs.Distinct.{distinct, holds}
use Rattle.docsets.proofs.DistinctLaws.{distinct-beside, distinct-left, distinct-split, length-distinct}
use Rattle.scorers.proofs.distinct_positions.make_room.Goals as goal

-- those that were left out leave the same
left : (held numbers given rest : List ℕ) → given ≡ held → rest ≡ filter (λ n. not (holds given n)) numbers → rest ≡ filter (λ n. not (holds held n)) numbers
left held numbers given rest same is = is ∙ ap (λ hs. filter (λ n. not (holds hs n)) numbers) same

pub overflow_sub-capacity-2 : goal.overflow_sub-capacity-2
overflow_sub-capacity-2 c =
    let once = length-distinct c.args.output.now.items in
    let held = c.count_once-held.ensures ∙ ap (λ xs. length (distinct xs)) c.deref.ensures.value in
    omega (arith, once, held)

pub returns-in_err-reserve-clause-full : goal.returns-in_err-reserve-clause-full
returns-in_err-reserve-clause-full c =
    let held = c.count_once-held.ensures ∙ ap (λ xs. length (distinct xs)) c.deref.ensures.value in
    let split = distinct-split 0 c.args.output.now.items c.args.numbers.now.items c.requires in
    let new = ap length (left c.args.output.now.items c.args.numbers.now.items c.deref-2.result.now c.leave_out.new.numbers.items c.deref-2.ensures.value c.leave_out.ensures.items) in
    let few : vec_capacity c.args.output.now < length (distinct (c.args.output.now.items ++ c.args.numbers.now.items)) = omega (arith, held, split, new) in
    on_err c.from_residual.result few

pub returns-then-capacity-held-clause-same : goal.returns-then-capacity-held-clause-same
returns-then-capacity-held-clause-same c =
    let new = left c.args.output.now.items c.args.numbers.now.items c.deref-2.result.now c.leave_out.new.numbers.items c.deref-2.ensures.value c.leave_out.ensures.items in
    ap (λ xs. distinct (xs ++ c.leave_out.new.numbers.items)) c.in_ok-reserve.ensures.items ∙ (ap (λ xs. distinct (c.args.output.now.items ++ xs)) new ∙ distinct-beside c.args.output.now.items c.args.numbers.now.items)

pub returns-clause-same : goal.returns-clause-same
returns-clause-same c =
    let new = left c.args.output.now.items c.args.numbers.now.items c.deref-2.result.now c.leave_out.new.numbers.items c.deref-2.ensures.value c.leave_out.ensures.items in
    ap (λ xs. distinct (xs ++ c.leave_out.new.numbers.items)) c.sort_once.ensures.items ∙ (distinct-left c.args.output.now.items c.leave_out.new.numbers.items ∙ (ap (λ xs. distinct (c.args.output.now.items ++ xs)) new ∙ distinct-beside c.args.output.now.items c.args.numbers.now.items))
