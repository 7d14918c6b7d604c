-- The scorer of a phrase answers its query, where what was read stands for documents.
use Rattle.std.proofs.Common.{[], List, ap, arith, length, slice_index, ◌+◌, ◌<◌, ◌≡◌, ◌≤◌, ◌∙◌, ℕ}
use Rattle.definitions.specs.Analyzers.{Analyzer}
use Rattle.definitions.specs.Answers.{answers}
use Rattle.definitions.specs.Phrases.{by_offset}
use Rattle.definitions.specs.Postings.{postings, terminated}
use Rattle.definitions.specs.Query.{Terms, phrase}
use Rattle.definitions.specs.Schema.{Schema}
use Rattle.definitions.specs.Scoring.{Similarity, length_id, phrase_field, weight_sum}
use Rattle.definitions.specs.Values.{Document}
use Rattle.docsets.specs.ScoredEntries.{pairs_of}
use Rattle.leaf_weights.proofs.PhraseAnswers.{AreScores, no_answers, phrase_answers, phrase_places_answer}
use Rattle.leaf_weights.specs.PlacedAnswers.{placed_answers}
use Rattle.leaf_weights.specs.ReadTerms.{HasMissing, placed_entries}
use Rattle.phrases.specs.PhraseEntries.{adjusted_terms, phrased}
use Rattle.term_scorer.specs.TermScores.{TermSimilarity, score_by}
use Rattle.segment_reader.specs.LengthIds.{AreIds}

module _ (schema : Schema) (analyze : Analyzer) (sim : Similarity) (b : ℕ) (terms : Terms) (slop : ℕ) (sorted : by_offset terms ≡ terms) where
  -- the sum of the weights, under the boost
  abbrev by_sum : TermSimilarity
  by_sum = record { weight = weight_sum sim.weight terms; boost = b; norms = sim.norms }

  -- scores by the sum of the weights and the lengths of the field
  scores-are : (by : TermSimilarity) (ids : List ℕ) (docs : List Document) → by ≡ by_sum → AreIds (length_id schema analyze (phrase_field terms)) docs ids → AreScores schema analyze sim b terms slop sorted (λ doc count. score_by by (slice_index ids doc) count) 0 docs
  scores-are by ids docs weighs are place doc count is =
      let at : 0 + place ≡ place = omega arith in
      ap (λ d. score_by by (slice_index ids d) count) at
      ∙ ap (λ i. score_by by i count) (are place doc is)
      ∙ ap (λ s. score_by s (length_id schema analyze (phrase_field terms) doc) count) weighs

  pub scores-answer : (by : TermSimilarity) (ids : List ℕ) (docs : List Document) → 0 < length terms → length docs ≤ terminated → by ≡ by_sum → AreIds (length_id schema analyze (phrase_field terms)) docs ids → pairs_of (phrased (λ doc count. score_by by (slice_index ids doc) count) slop (adjusted_terms (placed_entries (λ t. postings schema analyze t docs) terms))) ≡ answers schema analyze sim b (phrase terms slop) docs
  scores-answer by ids docs some fits weighs are = phrase_answers schema analyze sim b terms slop sorted (λ doc count. score_by by (slice_index ids doc) count) docs some fits (scores-are by ids docs weighs are)

  pub missing-answers : (docs : List Document) → HasMissing (λ t. postings schema analyze t docs) terms → answers schema analyze sim b (phrase terms slop) docs ≡ []
  missing-answers docs m = no_answers schema analyze sim b terms slop sorted m.place (0, []) docs m.within m.none

  pub scores-placed : (by : TermSimilarity) (ids : List ℕ) (docs : List Document) → 0 < length terms → length docs ≤ terminated → by ≡ by_sum → AreIds (length_id schema analyze (phrase_field terms)) docs ids → phrased (λ doc count. score_by by (slice_index ids doc) count) slop (adjusted_terms (placed_entries (λ t. postings schema analyze t docs) terms)) ≡ placed_answers schema analyze sim b terms slop docs
  scores-placed by ids docs some fits weighs are = phrase_places_answer schema analyze sim b terms slop sorted (λ doc count. score_by by (slice_index ids doc) count) docs some fits (scores-are by ids docs weighs are)
