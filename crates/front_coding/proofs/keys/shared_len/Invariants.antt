use Rattle.std.proofs.Common.{drop, length, ◌+◌, ◌-◌, ◌≡◌, ◌≤◌}
use Rattle.layouts.specs.TermSections.{shared}
use Rattle.front_coding.proofs.keys.shared_len.Given as goal

-- what is shared from the index on is left
abbrev pub invariant-loop-index : goal.invariant-loop-index
invariant-loop-index l = record {
  whole : shared l.before l.key ≡ l.index + shared (drop l.index l.before) (drop l.index l.key);
  one : l.index ≤ length l.before;
  two : l.index ≤ length l.key;
}

abbrev pub decreases-loop-index : goal.decreases-loop-index
decreases-loop-index l = length l.before - l.index
