use Rattle.std.proofs.Common.{ap, arith, max, refl, sym, ◌∙◌, ◌≡◌}
use Rattle.definitions.specs.Query as definitions
use Rattle.query_plans.proofs.ClausePlans.{bool_plan}
use Rattle.query_plans.proofs.JoinedClauses.{pushed}
use Rattle.query_plans.proofs.RaisedUnions.{raised_union}
use Rattle.query_plans.specs.Plans.{each_asking, joined}
use Rattle.query_trees.specs.Queries.{clauses_of, occur_of, query_of}
use Rattle.query_plans.proofs.raised_unions.push_raised.Goals as goal

pub returns-then-is_union : goal.returns-then-is_union
returns-then-is_union c =
    let inner = c.in-Boolean.inner in
    let same = c.clauses.ensures in
    let alike = sym same ∙ (c.is_union.ensures.alike c.if-is_union.true ∙ ap (each_asking definitions.should) same) in
    let is = c.max.ensures in
    let minimum = c.get_minimum_number_should_match-minimum.ensures in
    let most : c.max.result ≡ max inner.1 1 = omega (arith, is, minimum) in
    raised_union (clauses_of c.args.clauses.now.items) _ inner.0 (occur_of c.args.occur) (query_of c.args.query) inner.1 c.max.result c.requires (ap query_of c.in-Boolean.is) (c.is_union.ensures.asked c.if-is_union.true) alike (c.in_ok-push_each-in-Boolean.ensures ∙ ap (λ xs. joined (clauses_of c.args.clauses.now.items) (each_asking definitions.should xs)) c.into_clauses.ensures) most

pub returns-in_ok-push-in-Boolean : goal.returns-in_ok-push-in-Boolean
returns-in_ok-push-in-Boolean c = bool_plan 0 1 _ _ (pushed 0 c.args.clauses.now.items _ c.args.occur c.args.query _ c.in-Boolean.is c.in_ok-push-in-Boolean.ensures.items)

pub returns-in_ok-push-in_default : goal.returns-in_ok-push-in_default
returns-in_ok-push-in_default c = bool_plan 0 1 _ _ (pushed 0 c.args.clauses.now.items _ c.args.occur c.args.query c.args.query refl c.in_ok-push-in_default.ensures.items)
