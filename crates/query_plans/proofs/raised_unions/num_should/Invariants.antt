use Rattle.std.proofs.Common.{take, ◌≡◌, ◌≤◌}
use Rattle.query_plans.specs.Plans.{num_should}
use Rattle.query_trees.specs.Queries.{clauses_of}
use Rattle.query_plans.proofs.raised_unions.num_should.Given as goal

-- those before are counted
abbrev pub invariant-loop-occur : goal.invariant-loop-occur
invariant-loop-occur l = (l.num_should ≡ num_should (clauses_of (take l.occur-index l.clauses))) × (l.num_should ≤ l.occur-index)
