use Rattle.std.proofs.Common.{drop, filter, length, take, vec_capacity, ◌+◌, ◌-◌, ◌++◌, ◌≡◌, ◌≤◌}
use Rattle.phrases.specs.Places.{Ascends, has}
use Rattle.phrases.proofs.shared_positions.intersection.Given as goal

-- what is kept and what is left to keep are all that is kept
abbrev pub invariant-loop-i : goal.invariant-loop-i
invariant-loop-i l = record {
  within : l.i ≤ length l.left.items;
  before : l.count ≤ l.i;
  inside : l.j ≤ length l.right;
  left_ascends : Ascends 0 (drop l.i l.left.items);
  ascends : Ascends 0 (drop l.j l.right);
  items : take l.count l.left.items ++ filter (has (drop l.j l.right)) (drop l.i l.left.items) ≡ filter (has l.right) l.fn.left.items;
  room : vec_capacity l.left ≡ vec_capacity l.fn.left;
}

abbrev pub decreases-loop-i : goal.decreases-loop-i
decreases-loop-i l = (length l.left.items - l.i) + (length l.right - l.j)
