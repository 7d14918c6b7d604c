use Rattle.std.proofs.lemmas.List.Filters.{FiltersInPlace}
use Rattle.phrases.specs.Places.{has}
use Rattle.phrases.proofs.shared_positions.put_shared_first.Given as goal

-- those so far that are shared stand in front, and those left as they were
abbrev pub invariant-loop-i : goal.invariant-loop-i
invariant-loop-i l = record {
  kept : FiltersInPlace (has l.right) l.fn.left l.left l.count l.i;
}
