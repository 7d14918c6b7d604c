-- Laws of the scores of phrases.
use Rattle.std.proofs.Common.{◌≤◌, List, None, Option, Some, arith, slice_index, ℕ}
use Rattle.definitions.specs.Scoring.{max_score}
use Rattle.phrases.specs.PhraseScores.{phrase_score_by}
use Rattle.term_scorer.specs.Similarities.{similarity_data}
use Rattle.term_scorer.specs.TermScoreLaws.{score-below}
use Rattle.term_scorer.specs.declared.similarity.Similarity.{Similarity}

-- none is above the greatest
pub phrase_score-below : (similarity : Option Similarity) (ids : List ℕ) (doc count : ℕ) → phrase_score_by similarity ids doc count ≤ max_score
phrase_score-below None ids doc count = omega arith
phrase_score-below (Some s) ids doc count = (let le = score-below (similarity_data s) (slice_index ids doc) count in let fits = s.fits in omega (arith, le, fits))
