use Rattle.std.proofs.Common.{length, map, ◌*◌, ◌≤◌}
use Rattle.docsets.specs.contracts.list_scorer.ListScorerDocSet.TheImpl.{entries-value}
use Rattle.docsets.specs.Members.{greatest_sum}
use Rattle.scorer_cases.proofs.given_lists.lists.Given as goal

-- the greatest scores of the lists so far
abbrev pub invariant-loop-value : goal.invariant-loop-value
invariant-loop-value l = record {
  sum : greatest_sum (map entries-value.it l.lists.items) ≤ length l.lists.items * 1000000000;
  few : length l.lists.items ≤ 100000;
}
