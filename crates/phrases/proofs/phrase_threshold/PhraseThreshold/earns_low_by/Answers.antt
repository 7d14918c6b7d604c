use Rattle.std.proofs.Common.{arith, of_z, pos, rules, slice_index, subst, to_z, to_z-of_z, w64, ◌≤◌, ℕ}
use mir.Val.{SFits}
use Rattle.std.specs.Prelude.{◌≤ℤ◌}
use Rattle.std.proofs.Math.Nat.{mul-le-mul_left}
use Rattle.std.proofs.lemmas.Int.{ints}
use Rattle.definitions.proofs.BlockBounds.{part_rises}
use Rattle.walks.proofs.BlockWalks.{not_less}
use Rattle.term_scorer.specs.Similarities.{similarity_data}
use Rattle.term_scorer.specs.TermScores.{score_by}
use Rattle.phrases.proofs.phrase_threshold.PhraseThreshold.earns_low_by.Goals as goal

pub returns : goal.returns
returns c = λ yes count l.
    (let sim = similarity_data c.args.similarity in
    let id : ℕ = c.fieldnorm_id-fieldnorm_id.result in
    let norm = slice_index sim.norms id in
    let fits : SFits w64 c.score-score.result = search rules in
    let limit_fits : SFits w64 c.args.self.now.limit = search rules in
    let low : c.score-score.result ≤ℤ c.args.self.now.limit = subst (λ z. c.score-score.result ≤ℤ z) (to_z-of_z limit_fits) (not_less (to_z w64 (of_z w64 c.args.self.now.limit)) (to_z w64 (of_z w64 c.score-score.result)) c.score-score.result c.if-score-self.false (to_z-of_z fits)) in
    let value = c.score-score.ensures in
    let rises : score_by sim id count ≤ score_by sim id c.args.most = mul-le-mul_left sim.boost (part_rises sim.weight count norm c.args.most norm l (omega arith)) in
    subst (λ i. pos (score_by sim i count) ≤ℤ c.args.self.now.limit) c.fieldnorm_id-fieldnorm_id.ensures (omega (arith, ints, low, value, rises)))
