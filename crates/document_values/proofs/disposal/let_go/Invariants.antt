use Rattle.std.proofs.Common.{◌+◌}
use Rattle.document_values.specs.Owned.{owned_value}
use Rattle.document_values.specs.OwnedNodes.{nodes, nodes_above}
use Rattle.document_values.proofs.disposal.let_go.Given as goal

-- each step takes values away
abbrev pub decreases-loop-next : goal.decreases-loop-next
decreases-loop-next l = nodes (owned_value l.here) + nodes_above (owned_value l.above)
