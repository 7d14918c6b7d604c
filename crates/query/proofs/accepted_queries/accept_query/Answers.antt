use Rattle.query_trees.specs.Queries.{query_of}
use Rattle.query.proofs.Accepting.{errs_by_itself}
use Rattle.query.proofs.accepted_queries.accept_query.Goals as goal

pub returns-clause-own : goal.returns-clause-own
returns-clause-own g c = errs_by_itself c.args.schema.now (g.S.Statistics.similarity c.args.statistics.now).weight (query_of c.args.query.now) c.check_query.result c.check_query.ensures
