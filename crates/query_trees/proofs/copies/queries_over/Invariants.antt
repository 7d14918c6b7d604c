use Rattle.std.proofs.Common.{take, ◌≡◌}
use Rattle.query_trees.proofs.CopiedNodes.{Taking}
use Rattle.query_trees.specs.Queries.{query_of}
use Rattle.query_trees.specs.Walks.{stack}
use Rattle.query_trees.proofs.copies.queries_over.Given as goal

-- those so far are copied, and the copies of the others are the last ones
abbrev pub invariant-loop-query : goal.invariant-loop-query
invariant-loop-query l = (l.copied.items ≡ take l._query-index l.queries) × Taking query_of l.queries l._query-index (stack l.fn.copies.items) (stack l.copies.items)
