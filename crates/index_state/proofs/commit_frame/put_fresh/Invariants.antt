-- What is put and what is left make the whole.
use Rattle.std.proofs.Common.{drop, flat_map, map, ◌++◌, ◌≡◌}
use Rattle.segment.specs.Opened.{bytes_of}
use Rattle.segment_definitions.specs.ListBodies.{fresh, part_bytes}
use Rattle.index_state.proofs.commit_frame.put_fresh.Given as goal

abbrev pub invariant-loop-segment : goal.invariant-loop-segment
invariant-loop-segment l = l.body ++ flat_map part_bytes (map fresh (map bytes_of (drop l.segment-index l.segments))) ≡ l.fn.body ++ flat_map part_bytes (map fresh (map bytes_of l.segments))
