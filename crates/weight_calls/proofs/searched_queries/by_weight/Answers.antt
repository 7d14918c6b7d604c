use Rattle.std.proofs.Common.{rules, subst}
use Rattle.definitions.specs.Query.{term}
use Rattle.definitions.specs.Settings.{similarity_of}
use Rattle.leaf_weights.specs.TermWeights.{ScoresBy, option_asked, term_of}
use Rattle.query.proofs.AskedLaws.{weighed_tree}
use Rattle.query_trees.specs.Queries.{query_of}
use Rattle.query_scorers.specs.Accepted.{IsAccepted}
use Rattle.segment_reader.specs.Searchers.{statistics_of}
use Rattle.weight_calls.proofs.searched_queries.by_weight.Goals as goal

pub weighed-requires : goal.weighed-requires
weighed-requires c κs =
    let f = similarity_of in
    let w = c.term_weight-weight in
    let q = c.in-Term.query in
    let all = statistics_of c.args.searcher.now in
    let scores = subst (λ s. ScoresBy (f s) w.result) c.statistics.ensures w.ensures.scores in
    let accepted = subst (λ a. IsAccepted (f all).weight 1 (query_of a)) c.in-Term.is c.requires.accepted in
    (search rules, weighed_tree (λ s. ScoresBy s w.result) (f all) (term q.0 q.1) (term (term_of w.result) (option_asked w.result)) scores w.ensures.query accepted)
