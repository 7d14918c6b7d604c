use Rattle.std.proofs.Common.{ap, length, subst, sym, ◌<◌, ◌∙◌}
use Rattle.definitions.specs.Query as definitions
use Rattle.query_plans.proofs.PlanLaws.{under}
use Rattle.query_plans.proofs.RaisedUnions.{none_left, removed_plan}
use Rattle.query_plans.specs.Plans.{IsPlan, num_should}
use Rattle.query_trees.specs.Queries.{clauses_of}
use Rattle.query_plans.proofs.raised_unions.raised.Goals as goal

pub push_raised-requires : goal.push_raised-requires
push_raised-requires c =
    let cs = c.args.clauses.items in
    let value = c.deref.ensures.value in
    let small = subst (λ xs. c.in-Some.index < length xs) value c.in-Some.ensures.at in
    none_left cs c.remove-occur.new.self.items c.in-Some.index c.remove-occur.result small c.remove-occur.ensures.value c.remove-occur.ensures.by_index.2 (sym (ap (λ xs. num_should (clauses_of xs)) value) ∙ c.in-Some.ensures.none.1)

pub returns : goal.returns
returns c =
    let cs = c.args.clauses.items in
    let value = c.deref.ensures.value in
    let small = subst (λ xs. c.in-Some.index < length xs) value c.in-Some.ensures.at in
    let removed = removed_plan cs c.remove-occur.new.self.items c.in-Some.index c.remove-occur.result small c.remove-occur.ensures.value c.remove-occur.ensures.by_index.2 in
    subst (λ v. IsPlan 1 (definitions.boolean (clauses_of cs) c.args.least) (definitions.boolean v.0 v.1)) (sym c.with_minimum_required_clauses-2.ensures)
    (subst (λ n. IsPlan 1 (definitions.boolean (clauses_of cs) n) (definitions.boolean (clauses_of c.push_raised.new.clauses.items) c.in_ok-minimum.minimum)) (sym c.in-Some.ensures.none.0) (under 1 _ _ _ removed c.in_ok-minimum.ensures))
