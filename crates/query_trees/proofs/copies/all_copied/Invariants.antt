use Rattle.std.proofs.Common.{drop, length, map, take, ◌≡◌}
use Rattle.query_trees.proofs.CopiedNodes.{forest}
use Rattle.query_trees.specs.Walks.{seen, stack, walk_back}
use Rattle.query_trees.proofs.copies.all_copied.Given as goal

-- the first nodes are left, and the copies are those that the others leave
abbrev pub invariant-loop-node : goal.invariant-loop-node
invariant-loop-node l =
    (map seen l.nodes.items ≡ take (length (map seen l.nodes.items)) (walk_back (map seen l.fn.waiting.items)))
    × (stack l.copies.items ≡ forest (drop (length (map seen l.nodes.items)) (walk_back (map seen l.fn.waiting.items))))

-- each turn copies one
abbrev pub decreases-loop-node : goal.decreases-loop-node
decreases-loop-node l = length l.nodes.items
