use Rattle.std.proofs.Common.{ap, arith, of_z, pos, sym, to_z, ◌∙◌, ◌≤◌}
use Rattle.docsets.specs.Entries.{first_count}
use Rattle.term_scorer.specs.ScoredTerms.{scored_left}
use mir.Syntax.{w64}
use Rattle.definitions.specs.Scoring.{max_score}
use Rattle.segment_postings.specs.Cursors.{entries_left}
use Rattle.term_scorer.proofs.SignedScores.{score-kept}
use Rattle.term_scorer.specs.Similarities.{similarity_data}
use Rattle.term_scorer.specs.TermScores.{score_by}
use Rattle.term_scorer.proofs.TermScoreLaws.{first_score-term}
use Rattle.term_scorer.specs.TermScoreLaws.{score-below}
use Rattle.term_scorer.proofs.term_scorer.TermScorerScorer.score.Goals as goal

pub returns-clause-value : goal.returns-clause-value
returns-clause-value c =
    let sim = similarity_data c.args.self.now.similarity in
    let fits = c.args.self.now.similarity.fits in
    let le = score-below sim c.fieldnorm_id.result c.term_freq.result in
    let small : score_by sim c.fieldnorm_id.result c.term_freq.result ≤ max_score = omega (arith, le, fits) in
    let told = ap (score_by sim c.fieldnorm_id.result) c.term_freq.ensures in
    let scored = ap (λ id. score_by sim id (first_count (scored_left c.args.self.now))) c.fieldnorm_id.ensures in
    ap (λ z. to_z w64 (of_z w64 z)) c.score.ensures
    ∙ (score-kept _ small ∙ ap pos (told ∙ (scored ∙ sym (first_score-term sim c.args.self.now.fieldnorm_reader (entries_left c.args.self.now.postings) c.requires))))
