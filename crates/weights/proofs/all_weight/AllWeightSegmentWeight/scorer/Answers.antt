use Rattle.std.proofs.Common.{ap, of_z, refl, rules, to_z, ◌≡◌}
use Rattle.std.proofs.lemmas.Int.{to_z-of_z}
use mir.Syntax.{w64}
use mir.Val.{SFits}
use Rattle.definitions.specs.Query.{all}
use Rattle.definitions.specs.Scoring.{natural}
use Rattle.query_scorers.proofs.FormScores.{moved}
use Rattle.weights.proofs.all_weight.AllWeightSegmentWeight.scorer.Goals as goal

pub returns : goal.returns
returns c =
    let fits : SFits w64 c.args.boost = search rules in
    let boost : natural (to_z w64 (of_z w64 c.args.boost)) ≡ natural c.args.boost = ap natural (to_z-of_z w64 c.args.boost fits) in
    λ sim by. moved sim _ (natural c.args.boost) all c.args.reader.now _ _ refl boost (c.all_scorer.ensures sim)
