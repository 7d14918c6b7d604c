use Rattle.std.proofs.Common.{map, reverse, ◌++◌, ◌≡◌}
use Rattle.ask.specs.Sought.{clauses_below}
use Rattle.query_trees.specs.Queries.{clauses_of}
use Rattle.query_trees.specs.Walks.{seen}
use Rattle.ask.proofs.sought.push_clauses.Given as goal

-- those so far, then those that are left, from the last one on
abbrev pub invariant-loop-occur : goal.invariant-loop-occur
invariant-loop-occur l = map seen l.waiting.items ++ reverse (clauses_below (clauses_of l.occur-iterator.iter.rest.now)) ≡ map seen l.fn.waiting.items ++ reverse (clauses_below (clauses_of l.clauses))
