use Rattle.std.proofs.Common.{◌<◌, ◌∙◌, ap, arith, length, rules}
use Rattle.query_trees.proofs.Nodes.{last_above}
use Rattle.query_trees.specs.Nodes.{clauses_above}
use Rattle.query_trees.specs.Queries.{clauses_of}
use Rattle.query_trees.proofs.disposal.last_clause.Goals as goal

pub returns : goal.returns
returns c =
    let some : 0 < length c.pop.new.self.items = search rules in
    let more = ap (λ cs. clauses_above (clauses_of cs)) c.in-Some.ensures.items ∙ last_above _ _ some in
    omega (arith, more, ap (λ q. clauses_above q.0) c.with_minimum_required_clauses-rest.ensures)
