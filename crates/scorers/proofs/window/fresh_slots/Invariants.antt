use Rattle.std.proofs.Common.{length, slice_index_or, ◌<◌, ◌≡◌, ℕ}
use Rattle.scorers.proofs.window.fresh_slots.Given as goal

-- the slots so far are fresh
abbrev pub invariant-loop-k : goal.invariant-loop-k
invariant-loop-k g l = record {
  long : length l.slots.items ≡ 4096;
  fresh : (j : ℕ) → j < l.k → slice_index_or l.slots.items j l.fresh ≡ l.fresh;
}
