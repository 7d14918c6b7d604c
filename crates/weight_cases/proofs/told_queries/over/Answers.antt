use Rattle.std.proofs.Common.{refl, subst, sym}
use Rattle.definitions.specs.Scoring.{Similarity}
use Rattle.query_trees.specs.Queries.{query_of}
use Rattle.query_scorers.specs.Accepted.{IsAccepted}
use Rattle.weight_cases.proofs.told_queries.over.Goals as goal

pub in_segment-requires : goal.in_segment-requires
in_segment-requires c = λ k. ((refl, tt), subst (λ (s : Similarity). IsAccepted s.weight 1 (query_of c.args.query.now)) (sym c.new-weights.ensures) c.requires.accepted)
