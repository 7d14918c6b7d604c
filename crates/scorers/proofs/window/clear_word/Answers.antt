use Rattle.std.proofs.Common.{arith, bit_and, set, ◌%◌, ◌*◌, ◌+◌, ◌<◌}
use Rattle.std.specs.Int.{bit_not, trailing_zeros, w64}
use Rattle.scorers.specs.ClearedWords.{bit_mask}
use Rattle.scorers.proofs.ClearedWords.{clearing-end, clearing-step, left-smaller, next-below}
use Rattle.scorers.specs.Windows.{IsClearing}
use Rattle.scorers.proofs.window.clear_word.Given.{Over}
use Rattle.scorers.proofs.window.clear_word.Goals.{After-index_mut}
use Rattle.scorers.proofs.window.clear_word.Goals as goal

-- one slot more is cleared
step : (g : Over) (c : After-index_mut g) → IsClearing g.C.ScoreCombiner.answer g.C.ScoreCombiner.total c.args.fresh c.args.at c.args.limit c.take_below-left.new.self c.args.slots.now.items (set c.loop-left.slots.items (64 * c.args.at + trailing_zeros w64 c.loop-left.left % 64) c.args.fresh) (bit_and c.loop-left.left (bit_not w64 (bit_mask (trailing_zeros w64 c.loop-left.left % 64))))
step g c =
    let inv = c.loop-left.invariant in
    let k = trailing_zeros w64 c.loop-left.left % 64 in
    let within : k < 64 = omega arith in
    let long = inv.long in
    let slots = c.requires.slots in
    let at = c.requires.at in
    clearing-step g.C.ScoreCombiner.answer g.C.ScoreCombiner.total c.args.fresh c.args.at c.args.limit k c.take_below-left.new.self c.args.slots.now.items c.loop-left.slots.items c.loop-left.left inv within (next-below c.args.at c.args.limit c.loop-left.left inv.small c.requires.some inv.below) (omega (arith, long, slots, at, within))

pub returns-then-left-eq0-clause-same : goal.returns-then-left-eq0-clause-same
returns-then-left-eq0-clause-same g c =
    (clearing-end g.C.ScoreCombiner.answer g.C.ScoreCombiner.total c.args.fresh c.args.at c.args.limit c.args.present.now c.args.slots.now.items c.take_below-left.new.self _ c.take_below-left.result _ c.requires.cleared c.take_below-left.ensures (step g (goal.at.returns-then-left-eq0-clause-same g c).After-index_mut) c.if-left-eq0.true).0

pub returns-then-left-eq0-clause-cleared : goal.returns-then-left-eq0-clause-cleared
returns-then-left-eq0-clause-cleared g c =
    (clearing-end g.C.ScoreCombiner.answer g.C.ScoreCombiner.total c.args.fresh c.args.at c.args.limit c.args.present.now c.args.slots.now.items c.take_below-left.new.self _ c.take_below-left.result _ c.requires.cleared c.take_below-left.ensures (step g (goal.at.returns-then-left-eq0-clause-cleared g c).After-index_mut) c.if-left-eq0.true).1

pub loop-left-smaller : goal.loop-left-smaller
loop-left-smaller g c = left-smaller c.loop-left.left c.loop-left.invariant.small c.if-left-eq0.false

pub loop-left-preserved : goal.loop-left-preserved
loop-left-preserved g c = step g (goal.at.loop-left-preserved g c).After-index_mut
