use Rattle.std.proofs.Common.{ap, ap₂, refl, subst, ◌∙◌}
use Rattle.definitions.specs.Query as definitions
use Rattle.query_plans.proofs.JoinedClauses.{opened, pushed}
use Rattle.query_plans.specs.Plans.{ArePlans, each_asking, joined}
use Rattle.query_trees.specs.Queries.{clauses_of, occur_of, query_of}
use Rattle.query_plans.proofs.joined_clauses.push_clause.Goals as goal

pub returns-then-may_join : goal.returns-then-may_join
returns-then-may_join c =
    let occur = occur_of c.args.occur in
    let inner = c.in-Boolean.inner in
    let joins = subst (λ (v : definitions.Clauses × _). ArePlans c.args.least 1 (definitions.clause occur (definitions.boolean v.0 v.1) definitions.no_clauses) (each_asking occur v.0)) (ap₂ (λ xs n. (xs, n)) c.clauses.ensures c.get_minimum_number_should_match-minimum.ensures) (c.may_join.ensures c.if-may_join.true) in
    opened c.args.least (clauses_of c.args.clauses.now.items) _ inner.0 occur (query_of c.args.query) inner.1 (ap query_of c.in-Boolean.is) joins (c.in_ok-push_each-in-Boolean.ensures ∙ ap (λ xs. joined (clauses_of c.args.clauses.now.items) (each_asking occur xs)) c.into_clauses.ensures)

pub returns-in_ok-push-in-Boolean : goal.returns-in_ok-push-in-Boolean
returns-in_ok-push-in-Boolean c = pushed c.args.least c.args.clauses.now.items _ c.args.occur c.args.query _ c.in-Boolean.is c.in_ok-push-in-Boolean.ensures.items

pub returns-in_ok-push-in_default : goal.returns-in_ok-push-in_default
returns-in_ok-push-in_default c = pushed c.args.least c.args.clauses.now.items _ c.args.occur c.args.query c.args.query refl c.in_ok-push-in_default.ensures.items
