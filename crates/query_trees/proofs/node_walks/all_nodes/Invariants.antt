use Rattle.std.proofs.Common.{length, map, ◌++◌, ◌≡◌}
use Rattle.query_trees.specs.Walks.{seen, walk_back}
use Rattle.query_trees.proofs.node_walks.all_nodes.Given as goal

-- those so far and those that wait are all
abbrev pub invariant-loop-node : goal.invariant-loop-node
invariant-loop-node l = map seen l.nodes.items ++ walk_back (map seen l.waiting.items) ≡ walk_back (map seen l.fn.waiting.items)

-- each turn lists one
abbrev pub decreases-loop-node : goal.decreases-loop-node
decreases-loop-node l = length (walk_back (map seen l.waiting.items))
