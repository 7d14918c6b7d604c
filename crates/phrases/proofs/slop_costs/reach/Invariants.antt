use Rattle.std.proofs.Common.{drop, get_or, length, vec_capacity, vec_len, ◌++◌, ◌<◌, ◌≡◌, ◌≤◌, ℕ}
use Rattle.phrases.specs.Costs.{nearest_costs}
use Rattle.phrases.proofs.slop_costs.reach.Given as goal

-- what is put and what is left to put are all, and what was passed isn't behind what is left
abbrev pub invariant-loop-i : goal.invariant-loop-i
invariant-loop-i l = record {
  within : l.behind ≤ length l.table;
  passed : (k : ℕ) → k < l.behind → (j : ℕ) → l.i ≤ j → j < length l.positions → (get_or l.table k (0, 0)).0 ≤ get_or l.positions j 0;
  items : l.output.items ++ nearest_costs l.most l.table (drop l.i l.positions) ≡ nearest_costs l.most l.table l.positions;
  len : vec_len l.output ≡ l.i;
  room : vec_capacity l.output ≡ vec_capacity l.fn.output;
}
