use Rattle.std.proofs.Common.{length, map, ◌*◌, ◌≤◌}
use Rattle.docsets.specs.contracts.list_scorer.ListScorerDocSet.TheImpl.{entries-value}
use Rattle.docsets.specs.Members.{greatest_sum}
use Rattle.scorer_cases.proofs.given_lists.singles.Given as goal

-- the greatest scores of the lists so far
abbrev pub invariant-loop : goal.invariant-loop
invariant-loop l = record {
  sum : greatest_sum (map entries-value.it l.lists.items) ≤ length l.lists.items * 1000000000;
  few : length l.lists.items ≤ 100000;
}
