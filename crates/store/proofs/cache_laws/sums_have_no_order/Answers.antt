use Rattle.store.proofs.CacheLaws.{in_groups, in_order}
use Rattle.store.proofs.cache_laws.sums_have_no_order.Goals as goal

pub returns-clause-order : goal.returns-clause-order
returns-clause-order c = in_order

pub returns-clause-groups : goal.returns-clause-groups
returns-clause-groups c = in_groups
