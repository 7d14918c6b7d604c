use Rattle.std.proofs.Common.{drop, sum, take, ◌-◌, ◌<◌, ◌≡◌, ◌≤◌, ◌^◌}
use Rattle.segment_postings.proofs.positions_check.is_bounded.Given as goal

abbrev pub invariant-loop-done : goal.invariant-loop-done
invariant-loop-done l = record {
  same : l.reader ≡ l.fn.reader;
  within : l.done ≤ l.count;
  value : l.total ≡ sum (take l.done (drop l.index l.fn.reader));
  few : l.total < 2 ^ 31;
}

abbrev pub decreases-loop-done : goal.decreases-loop-done
decreases-loop-done l = l.count - l.done
