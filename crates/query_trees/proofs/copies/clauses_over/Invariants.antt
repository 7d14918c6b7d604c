use Rattle.std.proofs.Common.{take, ◌≡◌}
use Rattle.query_trees.proofs.CopiedNodes.{Taking}
use Rattle.query_trees.specs.Queries.{query_of}
use Rattle.query_trees.specs.Walks.{stack}
use Rattle.query_trees.proofs.copies.clauses_over.Given as goal

-- those so far are copied, and the copies of the others are the last ones
abbrev pub invariant-loop-occur : goal.invariant-loop-occur
invariant-loop-occur l = (l.copied.items ≡ take l.occur-index l.clauses) × Taking (λ c. query_of c.1) l.clauses l.occur-index (stack l.fn.copies.items) (stack l.copies.items)
