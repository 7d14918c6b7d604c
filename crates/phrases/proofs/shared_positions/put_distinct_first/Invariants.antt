use Rattle.std.proofs.Common.{drop, length, take, ◌++◌, ◌≡◌, ◌≤◌}
use Rattle.phrases.specs.Places.{distinct}
use Rattle.phrases.proofs.shared_positions.put_distinct_first.Given as goal

-- what is kept and what is left to keep are all
abbrev pub invariant-loop-i : goal.invariant-loop-i
invariant-loop-i l = record {
  before : l.count ≤ l.i;
  long : length l.positions ≡ length l.fn.positions;
  items : take l.count l.positions ++ distinct l.next (drop l.i l.positions) ≡ distinct 0 l.fn.positions;
}
