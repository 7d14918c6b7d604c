use Rattle.std.proofs.Common.{take, ◌≡◌}
use Rattle.query_plans.specs.Plans.{each_asking}
use Rattle.query_trees.specs.Queries.{clauses_of, occur_of}
use Rattle.query_plans.proofs.joined_clauses.ask_all.Given as goal

-- those before ask the same
abbrev pub invariant-loop-asks : goal.invariant-loop-asks
invariant-loop-asks l = clauses_of (take l.asks-index l.clauses) ≡ each_asking (occur_of l.occur) (clauses_of (take l.asks-index l.clauses))
