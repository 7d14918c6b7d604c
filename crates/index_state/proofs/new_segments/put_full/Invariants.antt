-- Those so far stand in the body one behind another, and they and those left are told like all of them.
use Rattle.std.proofs.Common.{length, map, ◌++◌, ◌≡◌}
use Rattle.index_state.specs.NewSegments.{ArePut, told_at, told_of}
use Rattle.index_state.proofs.new_segments.put_full.Given as goal

abbrev pub invariant-loop-segment : goal.invariant-loop-segment
invariant-loop-segment l = record {
  put : ArePut l.fn.body l.body l.news.items;
  same : map (told_at l.body) l.news.items ++ map told_of l.left.items ≡ map told_of l.fn.full.items;
}

abbrev pub decreases-loop-segment : goal.decreases-loop-segment
decreases-loop-segment l = length l.left.items
