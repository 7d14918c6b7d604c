use Rattle.std.proofs.Common.{Bool, None, Some, ap, ap₂, arith, false, if◌then◌else◌, of_z, sym, to_z, to_z-of_z, true, w64, ◌∙◌, ◌≡◌, ◌≤◌}
use Rattle.std.specs.Prelude.{int_lt, pos}
use Rattle.definitions.specs.Scoring.{max_score}
use Rattle.docsets.specs.Entries.{first_count, first_score}
use Rattle.segment_postings.specs.Cursors.{entries_left}
use Rattle.term_scorer.proofs.SignedScores.{score-kept}
use Rattle.term_scorer.proofs.TermScoreLaws.{first_score-term}
use Rattle.term_scorer.specs.ScoredTerms.{scored_left}
use Rattle.term_scorer.specs.Similarities.{similarity_data}
use Rattle.term_scorer.specs.TermScoreLaws.{score-below}
use Rattle.term_scorer.specs.TermScores.{score_by}
use Rattle.term_scorer.proofs.term_scorer.TermScorer.score_above.Goals.{After-exceeds}
use Rattle.term_scorer.proofs.term_scorer.TermScorer.score_above.Goals as goal

-- the current score is that of the length id and the count
worth : (c : After-exceeds) → score_by (similarity_data c.args.self.now.similarity) c.fieldnorm_id-fieldnorm_id.result c.term_freq-term_freq.result ≡ first_score (scored_left c.args.self.now)
worth c =
    let sim = similarity_data c.args.self.now.similarity in
    let told = ap (score_by sim c.fieldnorm_id-fieldnorm_id.result) c.term_freq-term_freq.ensures in
    let scored = ap (λ id. score_by sim id (first_count (scored_left c.args.self.now))) c.fieldnorm_id-fieldnorm_id.ensures in
    told ∙ (scored ∙ sym (first_score-term sim c.args.self.now.fieldnorm_reader (entries_left c.args.self.now.postings) c.requires))

pub returns-then-exceeds : goal.returns-then-exceeds
returns-then-exceeds c =
    let at = (goal.at.returns-then-exceeds c).After-exceeds in
    let sim = similarity_data c.args.self.now.similarity in
    let score = first_score (scored_left c.args.self.now) in
    let fits = c.args.self.now.similarity.fits in
    let le = score-below sim c.fieldnorm_id-fieldnorm_id.result c.term_freq-term_freq.result in
    let small : score_by sim c.fieldnorm_id-fieldnorm_id.result c.term_freq-term_freq.result ≤ max_score = omega (arith, le, fits) in
    let test : true ≡ int_lt c.args.threshold (pos score) = c.if-exceeds.ensures ∙ ap₂ (λ t n. int_lt t (pos n)) (to_z-of_z c.ranges.threshold) (worth at) in
    ap (λ z. Some (to_z w64 (of_z w64 z))) c.score.ensures
    ∙ ap Some (score-kept _ small ∙ ap pos (worth at))
    ∙ ap (λ (b : Bool). if b then Some (pos score) else None) test

pub returns : goal.returns
returns c =
    let at = (goal.at.returns c).After-exceeds in
    let score = first_score (scored_left c.args.self.now) in
    let test : false ≡ int_lt c.args.threshold (pos score) = c.if-exceeds.ensures ∙ ap₂ (λ t n. int_lt t (pos n)) (to_z-of_z c.ranges.threshold) (worth at) in
    ap (λ (b : Bool). if b then Some (pos score) else None) test
