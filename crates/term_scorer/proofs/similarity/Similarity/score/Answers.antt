use Rattle.std.proofs.Common.{ap, arith, pos, ◌*◌, ◌∙◌, ◌≤◌}
use Rattle.definitions.specs.Scoring.{max_score}
use Rattle.term_scorer.proofs.SignedScores.{score-kept, score-signed}
use Rattle.term_scorer.specs.Similarities.{similarity_data}
use Rattle.term_scorer.specs.TermScoreLaws.{score-below}
use Rattle.term_scorer.proofs.similarity.Similarity.score.Goals.{After-part_of_weight}
use Rattle.term_scorer.proofs.similarity.Similarity.score.Goals as goal

fits : (c : After-part_of_weight) → c.args.self.now.boost * c.part_of_weight.result ≤ max_score
fits c =
    let le = score-below (similarity_data c.args.self.now) c.args.fieldnorm_id c.args.term_freq in
    let small = c.args.self.now.fits in
    let same = ap (λ n. c.args.self.now.boost * n) c.part_of_weight.ensures in
    omega (arith, le, small, same)

pub overflow_mul-result : goal.overflow_mul-result
overflow_mul-result c = (let small = fits (goal.at.overflow_mul-result c).After-part_of_weight in omega (arith, small))

pub overflow_cast-result : goal.overflow_cast-result
overflow_cast-result c = score-signed _ (fits (goal.at.overflow_cast-result c).After-part_of_weight)

pub returns : goal.returns
returns c = score-kept _ (fits (goal.at.returns c).After-part_of_weight) ∙ ap (λ n. pos (c.args.self.now.boost * n)) c.part_of_weight.ensures
