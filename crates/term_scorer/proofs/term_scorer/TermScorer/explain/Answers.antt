use Rattle.std.proofs.Common.{IfOk, ap, pos, subst, sym, ◌∙◌, ◌≡◌, ℕ}
use Rattle.docsets.specs.Entries.{first_count}
use Rattle.segment_postings.specs.Cursors.{entries_left}
use Rattle.term_scorer.specs.Explaining.{explained_value}
use Rattle.term_scorer.specs.ScoredTerms.{scored_left}
use Rattle.term_scorer.specs.Similarities.{similarity_data}
use Rattle.term_scorer.proofs.TermScoreLaws.{first_score-term}
use Rattle.term_scorer.specs.TermScores.{score_by}
use Rattle.term_scorer.proofs.term_scorer.TermScorer.explain.Goals as goal

pub returns : goal.returns
returns c =
    let sim = similarity_data c.args.self.now.similarity in
    let told = ap (score_by sim c.fieldnorm_id.result) c.term_freq.ensures in
    let scored = ap (λ id. score_by sim id (first_count (scored_left c.args.self.now))) c.fieldnorm_id.ensures in
    let is = told ∙ (scored ∙ sym (first_score-term sim c.args.self.now.fieldnorm_reader (entries_left c.args.self.now.postings) c.requires)) in
    subst (λ (n : ℕ). IfOk c.explain.result (λ explanation. explained_value explanation ≡ pos n)) is c.explain.ensures
