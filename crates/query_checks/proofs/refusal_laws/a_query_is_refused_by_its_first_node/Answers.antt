use Rattle.query_checks.proofs.Orders.{tree_by_nodes}
use Rattle.query_checks.proofs.refusal_laws.a_query_is_refused_by_its_first_node.Goals as goal

pub returns : goal.returns
returns c = tree_by_nodes
