-- Scores of phrases.
use Rattle.std.specs.Prelude.{List, None, Option, Some, slice_index, ℕ}
use Rattle.term_scorer.specs.Similarities.{similarity_data}
use Rattle.term_scorer.specs.TermScores.{score_by}
use Rattle.term_scorer.specs.declared.similarity.Similarity.{Similarity}

-- the score that a count earns in a document, where each has a length id; 1 where there is no weight
abbrev pub phrase_score_by : Option Similarity → List ℕ → ℕ → ℕ → ℕ
phrase_score_by None ids doc count = 1
phrase_score_by (Some similarity) ids doc count = score_by (similarity_data similarity) (slice_index ids doc) count
