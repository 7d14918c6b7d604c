use Rattle.std.proofs.Common.{arith}
use Rattle.query_trees.proofs.Clauses.{clause_depth}
use Rattle.query_checks.proofs.checks.+is_deeper.Goals as goal

pub any_clause_is_deeper-is_deeper-requires : goal.any_clause_is_deeper-is_deeper-requires
any_clause_is_deeper-is_deeper-requires t c = omega (arith, clause_depth c.args.clauses.now c.loop-occur._occur-index c.loop-occur-item.result c.loop-occur-test.true c.loop-occur-item.is, c.decreases)
