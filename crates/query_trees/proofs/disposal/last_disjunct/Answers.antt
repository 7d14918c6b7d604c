use Rattle.std.proofs.Common.{◌<◌, ◌∙◌, ap, arith, length, rules}
use Rattle.query_trees.proofs.Nodes.{last_query_above}
use Rattle.query_trees.specs.Nodes.{queries_above}
use Rattle.query_trees.specs.Queries.{queries_of}
use Rattle.query_trees.proofs.disposal.last_disjunct.Goals as goal

pub returns : goal.returns
returns c =
    let some : 0 < length c.pop.new.self.items = search rules in
    let more = ap (λ qs. queries_above (queries_of qs)) c.in-Some.ensures.items ∙ last_query_above _ _ some in
    omega (arith, more, ap (λ q. queries_above q.0) c.new.ensures)
