use Rattle.std.proofs.Common.{ap, arith, drop, length, length-drop, length-take, subst, sum, sym, take, ◌+◌, ◌∙◌, ◌≡◌}
use Rattle.segment_postings.proofs.BoundedNumbers.{Leaves, block_sum, leaves_more, leaves_not}
use Rattle.segment_postings.specs.Placed.{LastPositionsFit}
use Rattle.segment_postings.specs.Cursors.{counts_left, docs_left}
use Rattle.segment_postings.proofs.positions_check.are_bounded.Goals as goal

pub block_end-requires-clause-block : goal.block_end-requires-clause-block
block_end-requires-clause-block c =
    let is = ap length c.freqs.ensures in
    omega (arith, is, length-take 128 (counts_left c.loop-room.blocks))

pub block_end-requires-clause-within : goal.block_end-requires-clause-within
block_end-requires-clause-within c =
    let left = counts_left c.loop-room.blocks in
    let many = c.loop-room.invariant.leaves.many in
    let both = block_sum left in
    let is = ap sum c.freqs.ensures in
    let same = ap length c.loop-room.invariant.reader_same in
    omega (arith, many, both, is, same)

pub block_end-requires-clause-few : goal.block_end-requires-clause-few
block_end-requires-clause-few c =
    let left = counts_left c.loop-room.blocks in
    let many = c.loop-room.invariant.leaves.many in
    let both = block_sum left in
    let is = ap sum c.freqs.ensures in
    let all = c.requires.many in
    let few = c.requires.few in
    omega (arith, many, both, is, all, few)

pub returns-in-None : goal.returns-in-None
returns-in-None c =
    let left = counts_left c.loop-room.blocks in
    let none : LastPositionsFit (take 128 left) (drop c.loop-room.index c.args.reader.now) → ⊥ = λ b. c.in-None.ensures.none (subst (λ xs. LastPositionsFit c.freqs.result.now (drop c.loop-room.index xs)) (sym c.loop-room.invariant.reader_same) (subst (λ ns. LastPositionsFit ns (drop c.loop-room.index c.args.reader.now)) (sym c.freqs.ensures) b)) in
    (λ f. absurd cc, λ all. absurd (leaves_not (counts_left c.args.blocks.now) c.args.reader.now left c.loop-room.index c.loop-room.invariant.leaves none all))

pub loop-room-smaller : goal.loop-room-smaller
loop-room-smaller c =
    let docs = ap length c.advance.ensures.docs in
    let some = c.loop-room-test.true in
    let len = c.block_len.ensures in
    omega (arith, docs, some, len, length-drop 128 (docs_left c.loop-room.blocks))

pub loop-room-preserved : goal.loop-room-preserved
loop-room-preserved c =
    let left = counts_left c.loop-room.blocks in
    let docs = ap length c.advance.ensures.docs in
    let counts = ap length c.advance.ensures.counts in
    let counted = c.loop-room.invariant.counted in
    let some = c.in-Some.ensures.some in
    let block : LastPositionsFit (take 128 left) (drop c.loop-room.index c.args.reader.now) = subst (λ ns. LastPositionsFit ns (drop c.loop-room.index c.args.reader.now)) c.freqs.ensures (subst (λ xs. LastPositionsFit c.freqs.result.now (drop c.loop-room.index xs)) c.loop-room.invariant.reader_same some.0) in
    let end : c.in-Some.end ≡ c.loop-room.index + sum (take 128 left) = some.1 ∙ ap (λ ns. c.loop-room.index + sum ns) c.freqs.ensures in
    record {
      reader_same = c.block_end.ensures.same ∙ c.loop-room.invariant.reader_same;
      counted = omega (arith, docs, counts, counted, length-drop 128 (docs_left c.loop-room.blocks), length-drop 128 left);
      leaves = subst (λ ns. Leaves (counts_left c.args.blocks.now) c.args.reader.now ns c.in-Some.end) (sym c.advance.ensures.counts) (leaves_more (counts_left c.args.blocks.now) c.args.reader.now left c.loop-room.index c.in-Some.end c.loop-room.invariant.leaves block end);
    }
