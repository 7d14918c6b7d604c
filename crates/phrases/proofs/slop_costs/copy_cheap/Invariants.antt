use Rattle.std.proofs.Common.{drop, length, take, vec_capacity, ◌++◌, ◌≡◌, ◌≤◌}
use Rattle.phrases.specs.Costs.{cheap}
use Rattle.phrases.proofs.slop_costs.copy_cheap.Given as goal

-- what is kept and what is left to keep are all
abbrev pub invariant-loop-i : goal.invariant-loop-i
invariant-loop-i l = record {
  before : l.count ≤ l.i;
  long : length l.output.items ≡ length l.table;
  items : take l.count l.output.items ++ cheap l.slop l.next (drop l.i l.table) ≡ cheap l.slop 0 l.table;
  room : vec_capacity l.output ≡ vec_capacity l.fn.output;
}
