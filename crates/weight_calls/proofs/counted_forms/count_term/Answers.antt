use Rattle.std.proofs.Common.{rules}
use Rattle.definitions.specs.Query.{term}
use Rattle.definitions.specs.Settings.{similarity_of}
use Rattle.leaf_weights.specs.TermWeights.{ScoresBy, option_asked, term_of}
use Rattle.query.proofs.AskedLaws.{weighed_tree}
use Rattle.weight_calls.proofs.counted_forms.count_term.Goals as goal

pub count-requires : goal.count-requires
count-requires c κs =
    let w = c.term_weight-weight in
    (search rules, weighed_tree (λ s. ScoresBy s w.result) (similarity_of c.args.statistics.now) (term c.args.query.now.0 c.args.query.now.1) (term (term_of w.result) (option_asked w.result)) w.ensures.scores w.ensures.query c.requires)
