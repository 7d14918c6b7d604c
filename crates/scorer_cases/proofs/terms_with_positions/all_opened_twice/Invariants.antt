use Rattle.std.proofs.Common.{map, sum, ◌*◌, ◌≡◌, ◌≤◌, ℕ}
use Rattle.docsets.specs.Members.{entries_at, greatest_sum}
use Rattle.segment_postings.specs.Cursors.{entries_left}
use Rattle.scorers.specs.Uniting.{counts_in}
use Rattle.scorer_cases.proofs.terms_with_positions.all_opened_twice.Given as goal

-- the cursors so far are the same twice, without scores, and each has few positions
abbrev pub invariant-loop-i : goal.invariant-loop-i
invariant-loop-i l = record {
  same : map entries_left l.second.items ≡ map entries_left l.first.items;
  unscored : greatest_sum (map entries_left l.first.items) ≡ 0;
  few : (d : ℕ) → sum (counts_in (entries_at d (map entries_left l.first.items))) ≤ 1000 * l.i;
}
