use Rattle.std.proofs.Common.{ap, ◌++◌, ◌∙◌}
use Rattle.query_plans.proofs.ClausePlans.{clauses_joined}
use Rattle.query_plans.proofs.JoinedClauses.{each_asked}
use Rattle.query_plans.specs.Plans.{joined}
use Rattle.query_trees.specs.Queries.{clauses_of}
use Rattle.query_plans.proofs.joined_clauses.push_each.Goals as goal

pub returns : goal.returns
returns c =
    let old = c.args.clauses.now.items in
    ap clauses_of c.in_ok-append.ensures.items
    ∙ (clauses_joined old c.in_ok-asked.asked.items
    ∙ ap (joined (clauses_of old)) (ap clauses_of c.in_ok-asked.ensures ∙ each_asked c.args.occur c.args.others.items))
