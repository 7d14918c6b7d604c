use Rattle.std.proofs.Common.{[], IfSome, IsSome, drop, length, ◌<◌, ◌≡◌}
use Rattle.std.specs.List.{slice_index_or}
use Rattle.merging.specs.KeyLists.{first_key, least_key}
use Rattle.merging.specs.Walking.{key_at}
use Rattle.merging.proofs.term_merger.least_of.Given as goal

-- the least of the members so far, from the last one on
abbrev pub invariant-loop-number : goal.invariant-loop-number
invariant-loop-number l = record {
  key_is : key_at l.members l.least ≡ least_key (drop l.number l.members);
  some : IfSome l.least (λ n. (n < length l.members) × IsSome (first_key (slice_index_or l.members n [])));
}
