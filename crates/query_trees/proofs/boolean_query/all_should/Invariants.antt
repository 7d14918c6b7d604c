use Rattle.std.proofs.Common.{◌≡◌, drop}
use Rattle.definitions.specs.Query.{all_should}
use Rattle.query_trees.specs.Queries.{clauses_of}
use Rattle.query_trees.proofs.boolean_query.all_should.Given as goal

-- what is left decides
abbrev pub invariant-loop-occur : goal.invariant-loop-occur
invariant-loop-occur l = all_should (clauses_of (drop l.occur-index l.clauses)) ≡ all_should (clauses_of l.clauses)
