use Rattle.std.proofs.Common.{ap, of_z, refl, rules, subst, sym, to_z, ◌*◌, ◌≡◌, ◌≤ℤ◌, ◌≤◌, ◌∙◌, pos}
use Rattle.std.proofs.lemmas.Int.{to_z-of_z}
use mir.Syntax.{w64}
use mir.Val.{SFits}
use Rattle.definitions.specs.Scoring.{max_score, natural}
use Rattle.query_scorers.proofs.ConstantScores.{constant_scores}
use Rattle.query_scorers.proofs.FormScores.{moved}
use Rattle.weights.proofs.WeighedLaws.{weighed_constant, weighed_constant_positive, weighed_constant_within}
use Rattle.weights.proofs.const_weight.ConstWeightSegmentWeight.scorer.Goals as goal

pub product-score-requires-clause-factor : goal.product-score-requires-clause-factor
product-score-requires-clause-factor g c =
    let w = c.args.self.now in
    let fits : SFits w64 w.score = search rules in
    subst (λ z. pos 0 ≤ℤ z) (sym (to_z-of_z w64 w.score fits)) (weighed_constant_positive (g.W.SegmentWeight.scores_by w.weight) (natural c.args.boost) w.score (g.W.SegmentWeight.query w.weight) c.requires.accepted)

pub product-score-requires-clause-fits : goal.product-score-requires-clause-fits
product-score-requires-clause-fits g c =
    let w = c.args.self.now in
    let fits : SFits w64 c.args.boost = search rules in
    let fit : SFits w64 w.score = search rules in
    subst (λ z. natural z * natural (to_z w64 (of_z w64 w.score)) ≤ max_score) (sym (to_z-of_z w64 c.args.boost fits))
    (subst (λ z. natural c.args.boost * natural z ≤ max_score) (sym (to_z-of_z w64 w.score fit)) (weighed_constant_within (g.W.SegmentWeight.scores_by w.weight) (natural c.args.boost) w.score (g.W.SegmentWeight.query w.weight) c.requires.accepted))

pub scorer-requires : goal.scorer-requires
scorer-requires g c κs =
    let w = c.args.self.now in
    let fits : SFits w64 c.args.boost = search rules in
    let same = to_z-of_z w64 c.args.boost fits in
    ((refl, tt), (subst (λ z. pos 0 ≤ℤ z) (sym same) c.requires.positive, (subst (λ z. natural z ≤ max_score) (sym same) c.requires.small, weighed_constant (g.W.SegmentWeight.scores_by w.weight) (natural c.args.boost) w.score (g.W.SegmentWeight.query w.weight) (natural (to_z w64 (of_z w64 c.args.boost))) (ap natural (sym same)) c.requires.accepted)))

pub returns : goal.returns
returns g c sim by =
    let w = c.args.self.now in
    let b = natural c.args.boost in
    let q = g.W.SegmentWeight.query w.weight in
    let r = c.args.reader.now in
    let fits : SFits w64 c.args.boost = search rules in
    let fit : SFits w64 w.score = search rules in
    let made : SFits w64 c.product-score.result = search rules in
    let same = to_z-of_z w64 c.args.boost fits in
    let factors : natural (to_z w64 (of_z w64 c.args.boost)) * natural (to_z w64 (of_z w64 w.score)) ≡ b * natural w.score = ap (λ z. natural z * natural (to_z w64 (of_z w64 w.score))) same ∙ ap (λ z. b * natural z) (to_z-of_z w64 w.score fit) in
    let value = ap natural (to_z-of_z w64 c.product-score.result made) ∙ (c.product-score.ensures.value ∙ factors) in
    constant_scores sim b (natural (to_z w64 (of_z w64 c.product-score.result))) w.score q r (g.W.Scorer.DocSet.entries c.in_ok-scorer.scorer) _ value c.new.ensures
    (moved sim (natural (to_z w64 (of_z w64 c.args.boost))) b q r _ _ refl (ap natural same) (c.in_ok-scorer.ensures sim by))
