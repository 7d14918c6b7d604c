use Rattle.std.proofs.Common.{take, ◌++◌, ◌≡◌}
use Rattle.index_state.proofs.merged_alive_sets.push_copies.Given as goal

abbrev pub invariant-loop-set : goal.invariant-loop-set
invariant-loop-set l = l.sets.items ≡ l.fn.sets.items ++ take l.set-index l.alive
