use Rattle.std.proofs.Common.{subst, sym, ◌∙◌}
use Rattle.definitions.specs.Query as definitions
use Rattle.query_plans.proofs.ClausePlans.{alone, only}
use Rattle.query_plans.specs.Plans.{IsPlan}
use Rattle.query_trees.specs.Queries.{clauses_of, occur_of, query_of}
use Rattle.query_plans.proofs.plans.only_clause.Goals as goal

pub returns-then-is_itself-clause-same : goal.returns-then-is_itself-clause-same
returns-then-is_itself-clause-same c =
    let clauses = c.args.clauses.now in
    let clause = c.index-clauses-0.result in
    subst (λ cs. IsPlan 1 (definitions.boolean (clauses_of cs) c.args.minimum) (query_of clause.1)) (sym (only clauses clause c.if-clauses-ne1.false c.index-clauses-0.is))
    (alone c.args.minimum (occur_of clause.0) (query_of clause.1) (sym c.is_itself.ensures ∙ c.if-is_itself.true))
