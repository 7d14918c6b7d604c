use Rattle.std.proofs.Common.{drop, map, take, ◌++◌, ◌≡◌}
use Rattle.docsets.specs.Entries.{from}
use Rattle.docsets.specs.Members.{entries_at}
use Rattle.scorers.specs.Windows.{IsCleared, Moves}
use Rattle.scorers.proofs.window.collect_all.Given as goal

-- the cursors so far are behind the horizon, the others where they were; these give what is to come
abbrev pub invariant-loop-i : goal.invariant-loop-i
invariant-loop-i g l = record {
  lists : map g.S.DocSet.entries l.docsets.items ≡ map (from l.horizon) (take l.i (map g.S.DocSet.entries l.fn.docsets.items)) ++ drop l.i (map g.S.DocSet.entries l.fn.docsets.items);
  moved : Moves g.C.ScoreCombiner.answer g.C.ScoreCombiner.total l.fresh l.start l.horizon l.fn.present l.fn.slots.items (λ d. entries_at d (map g.S.DocSet.entries l.fn.docsets.items)) l.present l.slots.items (λ d. entries_at d (drop l.i (map g.S.DocSet.entries l.fn.docsets.items)));
  cleared : IsCleared g.C.ScoreCombiner.answer g.C.ScoreCombiner.total l.present l.slots.items l.fresh 0;
}
