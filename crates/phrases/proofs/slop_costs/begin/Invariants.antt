use Rattle.std.proofs.Common.{drop, map, vec_capacity, vec_len, ◌++◌, ◌≡◌}
use Rattle.phrases.proofs.slop_costs.begin.Given as goal

-- what is put and what is left to put are all
abbrev pub invariant-loop-i : goal.invariant-loop-i
invariant-loop-i l = record {
  items : l.output.items ++ map (λ p. (p, 0)) (drop l.i l.positions) ≡ map (λ p. (p, 0)) l.positions;
  len : vec_len l.output ≡ l.i;
  room : vec_capacity l.output ≡ vec_capacity l.fn.output;
}
