use Rattle.std.proofs.Common.{ap, refl, rules, subst, ◌∙◌}
use Rattle.std.proofs.lemmas.Int.{to_z-of_z}
use mir.Syntax.{w64}
use mir.Val.{SFits}
use Rattle.segment_search.specs.CountedWeights.{CountedScoresBy, counted_query}
use Rattle.leaf_weights.specs.TermWeights.{option_asked, term_of}
use Rattle.weights.specs.Weighing.{IsWeighed}
use Rattle.segment_search.proofs.counted_weight.CountedWeight.for_each_pruning_counted.Goals as goal

pub for_each_pruning-requires : goal.for_each_pruning-requires
for_each_pruning-requires g c κs =
    let fits : SFits w64 c.args.threshold = search rules in
    ((refl, (refl, tt)), (subst (λ w. IsWeighed (CountedScoresBy g.W.LeafWeights.similarity w) 1 (counted_query w)) c.in-Other.is c.requires.accepted, (to_z-of_z w64 c.args.threshold fits ∙ c.requires.threshold, c.requires.room)))

pub returns-in-Term-clause-uncounted : goal.returns-in-Term-clause-uncounted
returns-in-Term-clause-uncounted g c other = absurd (other (term_of c.in-Term.weight, option_asked c.in-Term.weight, ap counted_query c.in-Term.is))
