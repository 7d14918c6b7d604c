use Rattle.std.proofs.Common.{arith, rules}
use Rattle.weight_calls.proofs.weighed_queries.exceeding.Goals as goal

pub for_each_pruning-requires : goal.for_each_pruning-requires
for_each_pruning-requires g c κs = (search rules, (c.requires, (search rules, omega arith)))
