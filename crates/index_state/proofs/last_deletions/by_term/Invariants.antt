use Rattle.std.proofs.Common.{map, take, ◌≡◌}
use Rattle.index_state.proofs.last_deletions.by_term.Given as goal

-- those so far
abbrev pub invariant-loop-deletion : goal.invariant-loop-deletion
invariant-loop-deletion l = map (λ d. d.now) l.sorted.items ≡ take l.deletion-index l.deletions
