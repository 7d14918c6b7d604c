use Rattle.std.proofs.Common.{ap, ◌∙◌, ◌≡◌}
use Rattle.definitions.specs.Query as definitions
use Rattle.query_trees.specs.Queries.{clauses_of, each_asks, queries_of}
use Rattle.query_trees.specs.declared.occur.Occur.TheVariants.{Should}
use Rattle.query_trees.proofs.Clauses.{each_of}
use Rattle.query_trees.proofs.boolean_query.BooleanQuery.union.Goals as goal

pub returns : goal.returns
returns c =
    let same : clauses_of c.in_ok-subqueries.subqueries.items ≡ each_asks definitions.should (queries_of c.args.queries.items) =
    ap clauses_of c.in_ok-subqueries.ensures ∙ each_of Should c.args.queries.items in
    c.new.ensures ∙ ap (λ cs. (cs, definitions.default_minimum cs)) same
