use Rattle.std.proofs.Common.{min, ◌*◌}
use Rattle.scorers.specs.Windows.{IsCleared, IsSameFrom}
use Rattle.scorers.proofs.window.clear_below.Given as goal

-- the words before this one are cleared, and what isn't below the limit is as it was
abbrev pub invariant-loop-at : goal.invariant-loop-at
invariant-loop-at g l = record {
  same : IsSameFrom l.fresh l.limit l.fn.present l.fn.slots.items l.present l.slots.items;
  cleared : IsCleared g.C.ScoreCombiner.answer g.C.ScoreCombiner.total l.present l.slots.items l.fresh (min (64 * l.at) l.limit);
}
