use Rattle.std.proofs.Common.{drop, length, ◌+◌, ◌-◌, ◌≡◌, ◌≤◌}
use Rattle.phrases.specs.Places.{Ascends}
use Rattle.phrases.specs.PrefixEntries.{continued}
use Rattle.phrases.proofs.shared_positions.count_continued.Given as goal

-- those that are counted and those that are left to count are all
abbrev pub invariant-loop-i : goal.invariant-loop-i
invariant-loop-i l = record {
  within : l.i ≤ length l.places;
  inside : l.j ≤ length l.positions;
  few : l.count ≤ l.i;
  positions : Ascends 0 (drop l.j l.positions);
  count : l.count + continued l.moved (drop l.i l.places) (drop l.j l.positions) ≡ continued l.moved l.places l.positions;
}

abbrev pub decreases-loop-i : goal.decreases-loop-i
decreases-loop-i l = (length l.places - l.i) + (length l.positions - l.j)
