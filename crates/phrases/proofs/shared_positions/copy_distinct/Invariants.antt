use Rattle.std.proofs.Common.{drop, vec_capacity, vec_len, ◌++◌, ◌≡◌, ◌≤◌}
use Rattle.phrases.specs.Places.{Ascends, distinct}
use Rattle.phrases.proofs.shared_positions.copy_distinct.Given as goal

-- what is copied and what is left to copy are all
abbrev pub invariant-loop-i : goal.invariant-loop-i
invariant-loop-i l = record {
  ascends : Ascends 0 (drop l.i l.positions);
  items : l.output.items ++ distinct l.next (drop l.i l.positions) ≡ distinct 0 l.positions;
  few : vec_len l.output ≤ l.i;
  room : vec_capacity l.output ≡ vec_capacity l.fn.output;
  small : l.next ≤ 4294967296;
}
