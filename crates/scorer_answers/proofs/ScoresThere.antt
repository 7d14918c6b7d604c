-- What a document earns, by what a scorer of its segment has of it.
use Rattle.std.proofs.Common.{[], List, None, Option, Some, ap, false, inl, inr, if◌then◌else◌, length, option_and_then, refl, slice_get, sym, true, ◌∙◌, ◌∷◌, ◌≡◌, ◌≤◌, ℕ}
use Rattle.std.proofs.lemmas.Option.{slice_get_cases}
use Rattle.any_scorer.specs.Clauses.{scores_of}
use Rattle.docsets.specs.Entries.{Entry}
use Rattle.definitions.specs.Analyzers.{Analyzer}
use Rattle.definitions.specs.Matching.{matches}
use Rattle.definitions.specs.Query.{Query}
use Rattle.definitions.specs.Refusing.{tree_fault}
use Rattle.definitions.specs.Schema.{Schema}
use Rattle.definitions.specs.Scoring.{Similarity, score}
use Rattle.definitions.specs.Values.{Document}
use Rattle.query_scorers.proofs.Earned.{earned, earned_nowhere, earned_there}
use Rattle.query_scorers.specs.Scores.{Scores}
use Rattle.scorer_answers.specs.Earned.{score_at}
use Rattle.segment_reader.specs.SegmentReaders.{StandsFor}
use Rattle.segment_reader.specs.declared.segment_reader.SegmentReader.{SegmentReader}

-- a list of one score or of none, as a score or none
abbrev pub one_score : List ℕ → Option ℕ
one_score [] = None
one_score (s ∷ ss) = Some s

module _ (schema : Schema) (analyze : Analyzer) (sim : Similarity) (b : ℕ) (q : Query) where
  alone : (doc : Document) → one_score (earned schema analyze sim b doc q) ≡ (if matches schema analyze doc q then Some (score schema analyze sim doc b q) else None)
  alone doc = elim (matches schema analyze doc q) as (λ m. one_score (if m then score schema analyze sim doc b q ∷ [] else []) ≡ (if m then Some (score schema analyze sim doc b q) else None)) [ true ↦ refl | false ↦ refl ]

  past : (docs : List Document) (d : ℕ) → slice_get docs d ≡ None → length docs ≤ d
  past docs d none = elim (slice_get_cases docs d).1 [ inl found ↦ absurd (let no : ⊥ = (let same = sym none ∙ found.2 in cc) in no) | inr off ↦ off.0 ]

  pub score_there : (docs : List Document) (r : SegmentReader) (es : List Entry) → StandsFor schema analyze docs r → tree_fault schema sim.weight b q ≡ None → Scores sim b q r es
      → (d : ℕ) → score_at schema analyze sim b q docs d ≡ one_score (scores_of d es)
  score_there docs r es stands passes scores d = go (slice_get docs d) refl
    where
      go : (o : Option Document) → slice_get docs d ≡ o → option_and_then (λ doc. if matches schema analyze doc q then Some (score schema analyze sim doc b q) else None) o ≡ one_score (scores_of d es)
      go None is = sym (ap one_score (earned_nowhere schema analyze sim b q docs es (scores.answers_are schema analyze docs stands passes) d (past docs d is)))
      go (Some doc) is = sym (ap one_score (earned_there schema analyze sim b q docs es (scores.answers_are schema analyze docs stands passes) d doc is) ∙ alone doc)
