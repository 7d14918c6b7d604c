use Rattle.std.proofs.Common.{length, vec_capacity, ◌≡◌, ◌≤◌}
use Rattle.phrases.proofs.row_search.note_guesses.Given as goal

-- there is one for each step so far
abbrev pub invariant-loop-i : goal.invariant-loop-i
invariant-loop-i l = record {
  within : l.index ≤ length l.rows;
  long : length l.guesses.items ≡ l._i;
  room : vec_capacity l.guesses ≡ vec_capacity l.fn.guesses;
}
