-- What is put and what is left make the whole.
use Rattle.std.proofs.Common.{flat_map, ◌++◌, ◌-◌, ◌≡◌}
use Rattle.index_state.specs.Bodies.{kept_from}
use Rattle.segment_definitions.specs.ListBodies.{part_bytes}
use Rattle.index_state.proofs.commit_frame.put_kept.Given as goal

abbrev pub invariant-loop-index : goal.invariant-loop-index
invariant-loop-index l = l.body ++ flat_map part_bytes (kept_from l.index (l.to - l.index)) ≡ l.fn.body ++ flat_map part_bytes (kept_from l.from (l.to - l.from))
