use Rattle.std.proofs.Common.{drop, vec_capacity, vec_len, ◌++◌, ◌+◌, ◌≡◌}
use Rattle.phrases.proofs.next_rows.append_all.Given as goal

-- what is copied and what is left to copy are all
abbrev pub invariant-loop-i : goal.invariant-loop-i
invariant-loop-i l = record {
  items : l.output.items ++ drop l.i l.places ≡ l.fn.output.items ++ l.places;
  len : vec_len l.output ≡ vec_len l.fn.output + l.i;
  room : vec_capacity l.output ≡ vec_capacity l.fn.output;
}
