use Rattle.std.proofs.Common.{map, take, ◌≡◌, ◌≤◌}
use Rattle.layouts.specs.Stores.{max_docs}
use Rattle.segment.specs.Members.{living_count, member_of}
use Rattle.segment.proofs.living_counts.num_living.Given as goal

-- the living documents of the members so far
abbrev pub invariant-loop-member : goal.invariant-loop-member
invariant-loop-member l = record {
  sum : l.sum ≡ living_count (take l.member-index (map member_of l.members));
  few : l.sum ≤ max_docs;
}
