use Rattle.std.proofs.Common.{arith, subst, sym, ◌≤◌}
use Rattle.definitions.specs.Query as definitions
use Rattle.query_plans.proofs.JoinedClauses.{musts_join, nots_join, shoulds_join}
use Rattle.query_plans.specs.Plans.{ArePlans, each_asking}
use Rattle.query_trees.specs.Queries.{clauses_of, occur_of}
use Rattle.query_plans.proofs.joined_clauses.may_join.Goals as goal

pub returns-then-minimum-eq0 : goal.returns-then-minimum-eq0
returns-then-minimum-eq0 c = λ all.
    let least = c.args.least in
    let cs = clauses_of c.args.clauses.now in
    subst (λ o. ArePlans least 1 (definitions.clause (occur_of o) (definitions.boolean cs c.args.minimum) definitions.no_clauses) (each_asking (occur_of o) cs)) (sym c.in-Must.is)
    (subst (λ n. ArePlans least 1 (definitions.clause definitions.must (definitions.boolean cs n) definitions.no_clauses) (each_asking definitions.must cs)) (sym c.if-minimum-eq0.true)
    (subst (λ xs. ArePlans least 1 (definitions.clause definitions.must (definitions.boolean xs 0) definitions.no_clauses) (each_asking definitions.must cs)) (sym (c.ask_all.ensures.alike all)) (musts_join least cs (c.ask_all.ensures.some all))))

pub returns-then-max-le1 : goal.returns-then-max-le1
returns-then-max-le1 c = λ all.
    let least = c.args.least in
    let cs = clauses_of c.args.clauses.now in
    let is = c.max.ensures in
    let few = c.if-max-le1.true in
    subst (λ o. ArePlans least 1 (definitions.clause (occur_of o) (definitions.boolean cs c.args.minimum) definitions.no_clauses) (each_asking (occur_of o) cs)) (sym c.in-Should.is)
    (subst (λ xs. ArePlans least 1 (definitions.clause definitions.should (definitions.boolean xs c.args.minimum) definitions.no_clauses) (each_asking definitions.should cs)) (sym (c.ask_all-then-max-le1.ensures.alike all)) (shoulds_join least c.args.minimum cs (omega (arith, is, few)) (omega (arith, is, few))))

pub returns-then-minimum-le1 : goal.returns-then-minimum-le1
returns-then-minimum-le1 c = λ all.
    let least = c.args.least in
    let cs = clauses_of c.args.clauses.now in
    subst (λ o. ArePlans least 1 (definitions.clause (occur_of o) (definitions.boolean cs c.args.minimum) definitions.no_clauses) (each_asking (occur_of o) cs)) (sym c.in-MustNot.is)
    (subst (λ xs. ArePlans least 1 (definitions.clause definitions.must_not (definitions.boolean xs c.args.minimum) definitions.no_clauses) (each_asking definitions.must_not cs)) (sym (c.ask_all-then-minimum-le1.ensures.alike all)) (nots_join least c.args.minimum cs c.if-minimum-le1.true))
