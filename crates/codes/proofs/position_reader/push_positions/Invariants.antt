use Rattle.std.proofs.Common.{vec_capacity, ◌≡◌}
use Rattle.codes.proofs.AppendedPlaces.{Pushes}
use Rattle.codes.proofs.position_reader.push_positions.Given as goal

-- the sums so far stand behind what the output held
abbrev pub invariant-loop-i : goal.invariant-loop-i
invariant-loop-i l = record {
  pushes : Pushes l.before l.numbers l.fn.output.items l.i l.last l.output.items;
  room : vec_capacity l.output ≡ vec_capacity l.fn.output;
}
