-- Laws of scorers that answer queries: what answers a query matches it, and there is no more of it than documents.
use Rattle.std.proofs.Common.{[], List, None, Some, ap, arith, false, filter_map, if◌then◌else◌, length, map, refl, true, ◌+◌, ◌∙◌, ◌∷◌, ◌≡◌, ◌≤◌, ℕ}
use Rattle.std.specs.List.{cons_option, enumerate_from}
use Rattle.docsets.specs.Entries.{Entry, Rising}
use Rattle.definitions.specs.Analyzers.{Analyzer}
use Rattle.definitions.specs.Answers.{answer_at, answers}
use Rattle.definitions.specs.Matching.{matches}
use Rattle.definitions.specs.Query.{Query}
use Rattle.definitions.specs.Schema.{Schema}
use Rattle.definitions.specs.ScoredLists.{documents_of}
use Rattle.definitions.specs.Scoring.{Similarity, score}
use Rattle.definitions.specs.Values.{Document}
use Rattle.docsets.specs.ScoredEntries.{pairs_of}
use Rattle.query_scorers.specs.Scores.{Scores}
use Rattle.walks.proofs.FedBelow.{few_within}
use Rattle.scorer_answers.specs.Matching.{Matches, matching}
use Rattle.segment_reader.specs.SegmentReaders.{max_doc_of}
use Rattle.segment_reader.specs.declared.segment_reader.SegmentReader.{SegmentReader}

-- the documents that are left
documents_left : (es : List Entry) → map (λ e. e.doc) es ≡ documents_of (pairs_of es)
documents_left [] = refl
documents_left (e ∷ es) = ap (λ ds. e.doc ∷ ds) (documents_left es)

module _ (schema : Schema) (analyze : Analyzer) (sim : Similarity) (b : ℕ) (q : Query) where
  places_from : (n : ℕ) (docs : List Document) → documents_of (filter_map (answer_at schema analyze sim b q) (enumerate_from n docs)) ≡ filter_map (λ p. if matches schema analyze p.1 q then Some p.0 else None) (enumerate_from n docs)
  places_from n [] = refl
  places_from n (doc ∷ docs) =
      let ih = places_from (n + 1) docs in
      elim (matches schema analyze doc q) as (λ m. documents_of (cons_option (if m then Some (n, score schema analyze sim doc b q) else None) (filter_map (answer_at schema analyze sim b q) (enumerate_from (n + 1) docs))) ≡ cons_option (if m then Some n else None) (filter_map (λ p. if matches schema analyze p.1 q then Some p.0 else None) (enumerate_from (n + 1) docs))) [
        | true ↦ ap (λ ds. n ∷ ds) ih
        | false ↦ ih
      ]

  -- the places of the answers are those of the documents that match
  pub answers_match : (docs : List Document) → documents_of (answers schema analyze sim b q docs) ≡ matching schema analyze q docs
  answers_match docs = places_from 0 docs

-- what answers a query matches it
pub scores_match : (sim : Similarity) (b : ℕ) (q : Query) (r : SegmentReader) (es : List Entry) → Scores sim b q r es → Matches sim.weight b q r es
scores_match sim b q r es scores = record {
  documents_are = λ schema analyze docs stands passes. documents_left es ∙ (ap documents_of (scores.answers_are schema analyze docs stands passes) ∙ answers_match schema analyze sim b q docs);
}

-- a cursor has no more entries than its segment has documents
pub few_documents : (sim : Similarity) (b : ℕ) (q : Query) (r : SegmentReader) (es : List Entry) → Rising 0 es → Scores sim b q r es → length es ≤ max_doc_of r
few_documents sim b q r es rises scores = let few = few_within 0 (max_doc_of r) es rises scores.within in omega (arith, few)
