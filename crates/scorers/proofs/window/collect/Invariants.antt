use Rattle.std.proofs.Common.{◌-◌, ◌≡◌, ◌≤◌}
use Rattle.docsets.specs.Entries.{first, from}
use Rattle.docsets.specs.Members.{entries_of}
use Rattle.scorers.specs.Windows.{IsCleared, Moves}
use Rattle.scorers.proofs.window.collect.Given as goal

-- what slots hold and the cursor still gives is what they were to hold
abbrev pub invariant-loop-doc : goal.invariant-loop-doc
invariant-loop-doc g l = record {
  at : l.doc ≡ first (g.S.DocSet.entries l.scorer);
  ahead : l.start ≤ l.doc;
  rest : from l.horizon (g.S.DocSet.entries l.scorer) ≡ from l.horizon (g.S.DocSet.entries l.fn.scorer);
  moved : Moves g.C.ScoreCombiner.answer g.C.ScoreCombiner.total l.fn.fresh l.start l.horizon l.fn.present l.fn.slots.items (λ d. entries_of d (g.S.DocSet.entries l.fn.scorer)) l.present l.slots.items (λ d. entries_of d (g.S.DocSet.entries l.scorer));
  cleared : IsCleared g.C.ScoreCombiner.answer g.C.ScoreCombiner.total l.present l.slots.items l.fn.fresh 0;
}

abbrev pub decreases-loop-doc : goal.decreases-loop-doc
decreases-loop-doc g l = l.horizon - l.doc
