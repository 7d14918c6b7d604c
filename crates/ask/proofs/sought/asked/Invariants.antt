use Rattle.std.proofs.Common.{length, map, ◌++◌, ◌≡◌}
use Rattle.ask.specs.Sought.{asked, asked_back}
use Rattle.query_trees.specs.Queries.{query_of}
use Rattle.query_trees.specs.Walks.{seen}
use Rattle.ask.proofs.sought.asked.Given as goal

-- those so far and those that wait are all
abbrev pub invariant-loop-node : goal.invariant-loop-node
invariant-loop-node l = map seen l.nodes.items ++ asked_back (map seen l.waiting.items) ≡ asked (query_of l.query)

-- each turn lists one
abbrev pub decreases-loop-node : goal.decreases-loop-node
decreases-loop-node l = length (asked_back (map seen l.waiting.items))
