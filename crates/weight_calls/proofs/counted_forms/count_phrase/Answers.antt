use Rattle.std.proofs.Common.{rules}
use Rattle.definitions.specs.Query.{phrase}
use Rattle.definitions.specs.Settings.{similarity_of}
use Rattle.leaf_weights.specs.PhraseWeights.{ScoresBy, slop_of, terms_of}
use Rattle.query.proofs.AskedLaws.{weighed_tree}
use Rattle.weight_calls.proofs.counted_forms.count_phrase.Goals as goal

pub count-requires : goal.count-requires
count-requires c κs =
    let w = c.phrase_weight-weight in
    (search rules, weighed_tree (λ s. ScoresBy s w.result) (similarity_of c.args.statistics.now) (phrase c.args.query.now.0 c.args.query.now.1) (phrase (terms_of w.result) (slop_of w.result)) w.ensures.scores w.ensures.query c.requires)
