use Rattle.std.proofs.Common.{sym, ◌∙◌}
use Rattle.query_trees.proofs.Clauses.{minimum_of_all}
use Rattle.query_trees.proofs.boolean_query.default_minimum.Goals as goal

pub returns-then-all_should : goal.returns-then-all_should
returns-then-all_should c = minimum_of_all c.args.clauses.now (sym c.is_empty.ensures ∙ c.if-not-is_empty.true) (sym c.all_should.ensures ∙ c.if-all_should.true)
