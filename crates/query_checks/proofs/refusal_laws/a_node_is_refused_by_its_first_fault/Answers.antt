use Rattle.query_checks.proofs.Orders.{all_pass, fault_is_first}
use Rattle.query_checks.proofs.refusal_laws.a_node_is_refused_by_its_first_fault.Goals as goal

pub returns-clause-first : goal.returns-clause-first
returns-clause-first c = fault_is_first

pub returns-clause-passes : goal.returns-clause-passes
returns-clause-passes c = all_pass
