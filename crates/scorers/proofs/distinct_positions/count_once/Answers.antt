use Rattle.std.proofs.Common.{arith, sym, ◌∙◌}
use Rattle.docsets.proofs.DistinctLaws.{count-new, count-old}
use Rattle.scorers.proofs.distinct_positions.count_once.Goals as goal
use Rattle.scorers.proofs.distinct_positions.count_once.Goals.{else-not-contains, then-not-contains}

pub loop-i-preserved : goal.loop-i-preserved
loop-i-preserved c = elim c.if-not-contains.branch [
  | then-not-contains w ↦ record {
    counted = w.count-is ∙ count-new c.args.numbers.now c.loop-i.i 0 c.loop-i.count c.loop-i-test.true (sym c.contains.ensures.value ∙ w.if-not-contains.true) c.loop-i.invariant.counted;
    few = omega arith;
  }
  | else-not-contains w ↦ record {
    counted = w.count-is ∙ count-old c.args.numbers.now c.loop-i.i 0 c.loop-i.count c.loop-i-test.true (sym c.contains.ensures.value ∙ w.if-not-contains.false) c.loop-i.invariant.counted;
    few = omega arith;
  }
]
