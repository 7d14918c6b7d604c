-- Several queries as one.
use Rattle.std.proofs.Common.{ap, arith, length, to_z-of_z, ◌<◌, ◌∙◌, ◌≡◌, ℤ}
use Rattle.definitions.specs.Query.{Queries, disjunction_max}
use Rattle.query_text.proofs.SeveralQueries.{several}
use Rattle.query_trees.specs.Queries.{queries_of}
use Rattle.query_text.proofs.vocabulary.one_of.Goals as goal

pub returns-then-len-gt1 : goal.returns-then-len-gt1
returns-then-len-gt1 c =
    let items = c.args.found.queries.items in
    let more : 1 < length items = omega (arith, c.len.ensures, c.if-len-gt1.true) in
    let same : disjunction_max c.with_tie_breaker-query.result.0 c.with_tie_breaker-query.result.1 ≡ disjunction_max (queries_of items) c.args.tie_breaker = ap (λ (p : Queries × ℤ). disjunction_max p.0 p.1) c.with_tie_breaker-query.ensures ∙ ap (disjunction_max (queries_of items)) (to_z-of_z c.ranges.tie_breaker) in
    rw same (several c.args.tie_breaker c.args.found.reason items more)
