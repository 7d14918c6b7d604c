use Rattle.std.proofs.Common.{subst, sym}
use Rattle.query_trees.specs.Queries.{query_of}
use Rattle.query_scorers.specs.Accepted.{IsAccepted}
use Rattle.segment_search.proofs.best_documents.best_documents.Goals as goal

pub best_searched-requires-clause-accepted : goal.best_searched-requires-clause-accepted
best_searched-requires-clause-accepted g c = subst (λ s. IsAccepted (g.S.Statistics.similarity s).weight 1 (query_of c.args.query.now)) (sym c.new-searcher.ensures.statistics) c.requires.accepted
