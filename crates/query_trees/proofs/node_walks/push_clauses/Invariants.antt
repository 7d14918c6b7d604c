use Rattle.std.proofs.Common.{map, reverse, ◌++◌, ◌≡◌}
use Rattle.query_trees.specs.Queries.{clauses_of}
use Rattle.query_trees.specs.Walks.{clauses_children, seen}
use Rattle.query_trees.proofs.node_walks.push_clauses.Given as goal

-- those so far, then those that are left, from the last one on
abbrev pub invariant-loop-occur : goal.invariant-loop-occur
invariant-loop-occur l = map seen l.waiting.items ++ reverse (clauses_children (clauses_of l._occur-iterator.iter.rest.now)) ≡ map seen l.fn.waiting.items ++ reverse (clauses_children (clauses_of l.clauses))
