use Rattle.std.proofs.Common.{ap, of_z, refl, rules, subst, sym, to_z, ◌*◌, ◌≡◌, ◌≤ℤ◌, ◌≤◌, ◌∙◌, pos}
use Rattle.std.proofs.lemmas.Int.{to_z-of_z}
use Rattle.std.proofs.lemmas.Result.{IfOk-weaker}
use mir.Syntax.{w64}
use mir.Val.{SFits}
use Rattle.definitions.specs.Scoring.{max_score, natural}
use Rattle.query_scorers.proofs.ScoredParts.{boosted_scores}
use Rattle.weights.proofs.WeighedLaws.{weighed_boost, weighed_boost_positive, weighed_boost_within}
use Rattle.weights.proofs.boost_weight.BoostWeightSegmentWeight.scorer.Goals as goal

pub product-under-requires-clause-factor : goal.product-under-requires-clause-factor
product-under-requires-clause-factor g c =
    let fits : SFits w64 c.args.self.now.boost = search rules in
    subst (λ z. pos 0 ≤ℤ z) (sym (to_z-of_z w64 c.args.self.now.boost fits)) (weighed_boost_positive (g.W.SegmentWeight.scores_by c.args.self.now.weight) (natural c.args.boost) c.args.self.now.boost (g.W.SegmentWeight.query c.args.self.now.weight) c.requires.accepted)

pub product-under-requires-clause-fits : goal.product-under-requires-clause-fits
product-under-requires-clause-fits g c =
    let fits : SFits w64 c.args.boost = search rules in
    let fit : SFits w64 c.args.self.now.boost = search rules in
    subst (λ z. natural z * natural (to_z w64 (of_z w64 c.args.self.now.boost)) ≤ max_score) (sym (to_z-of_z w64 c.args.boost fits))
    (subst (λ z. natural c.args.boost * natural z ≤ max_score) (sym (to_z-of_z w64 c.args.self.now.boost fit)) (weighed_boost_within (g.W.SegmentWeight.scores_by c.args.self.now.weight) (natural c.args.boost) c.args.self.now.boost (g.W.SegmentWeight.query c.args.self.now.weight) c.requires.accepted))

pub scorer-requires : goal.scorer-requires
scorer-requires g c κs =
    let w = c.args.self.now in
    let b = natural c.args.boost in
    let fits : SFits w64 c.args.boost = search rules in
    let fit : SFits w64 w.boost = search rules in
    let under : SFits w64 c.product-under.result = search rules in
    let same = to_z-of_z w64 c.product-under.result under in
    let factors : natural (to_z w64 (of_z w64 c.args.boost)) * natural (to_z w64 (of_z w64 w.boost)) ≡ b * natural w.boost = ap (λ z. natural z * natural (to_z w64 (of_z w64 w.boost))) (to_z-of_z w64 c.args.boost fits) ∙ ap (λ z. b * natural z) (to_z-of_z w64 w.boost fit) in
    let value = ap natural same ∙ (c.product-under.ensures.value ∙ factors) in
    ((refl, tt), (subst (λ z. pos 0 ≤ℤ z) (sym same) c.product-under.ensures.positive, (subst (λ n. n ≤ max_score) (sym value) (weighed_boost_within (g.W.SegmentWeight.scores_by w.weight) b w.boost (g.W.SegmentWeight.query w.weight) c.requires.accepted), weighed_boost (g.W.SegmentWeight.scores_by w.weight) b w.boost (g.W.SegmentWeight.query w.weight) (natural (to_z w64 (of_z w64 c.product-under.result))) (sym value) c.requires.accepted)))

pub returns : goal.returns
returns g c sim by =
    let w = c.args.self.now in
    let b = natural c.args.boost in
    let q = g.W.SegmentWeight.query w.weight in
    let fits : SFits w64 c.args.boost = search rules in
    let fit : SFits w64 w.boost = search rules in
    let under : SFits w64 c.product-under.result = search rules in
    let same = to_z-of_z w64 c.product-under.result under in
    let factors : natural (to_z w64 (of_z w64 c.args.boost)) * natural (to_z w64 (of_z w64 w.boost)) ≡ b * natural w.boost = ap (λ z. natural z * natural (to_z w64 (of_z w64 w.boost))) (to_z-of_z w64 c.args.boost fits) ∙ ap (λ z. b * natural z) (to_z-of_z w64 w.boost fit) in
    let value = ap natural same ∙ (c.product-under.ensures.value ∙ factors) in
    IfOk-weaker c.scorer.result _ _ (λ scorer scores. boosted_scores sim b (natural (to_z w64 (of_z w64 c.product-under.result))) w.boost q q c.args.reader.now (g.W.Scorer.DocSet.entries scorer) value refl scores) (c.scorer.ensures sim by)
