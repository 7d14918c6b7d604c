use Rattle.std.proofs.Common.{◌+◌}
use Rattle.query_trees.specs.Nodes.{nodes, nodes_above}
use Rattle.query_trees.specs.Queries.{query_of}
use Rattle.query_trees.proofs.disposal.let_go.Given as goal

-- each step takes nodes away
abbrev pub decreases-loop-next : goal.decreases-loop-next
decreases-loop-next l = nodes (query_of l.node) + nodes_above (query_of l.above)
