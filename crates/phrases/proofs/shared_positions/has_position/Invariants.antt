use Rattle.std.proofs.Common.{take, ◌≡◌}
use Rattle.phrases.specs.Places.{has}
use Rattle.phrases.proofs.shared_positions.has_position.Given as goal

-- it was found if it is among those so far
abbrev pub invariant-loop-i : goal.invariant-loop-i
invariant-loop-i l = record {
  found : l.found ≡ has (take l.i l.positions) l.position;
}
