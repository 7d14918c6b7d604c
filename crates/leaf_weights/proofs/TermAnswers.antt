-- The scored postings of a term are what its query answers.
use Rattle.std.proofs.Common.{[], Bool, List, None, Some, ap, arith, false, filter_map, if◌then◌else◌, map, refl, slice_get, slice_index, suc, true, ◌*◌, ◌+◌, ◌≡◌, ◌∙◌, ◌∷◌, ℕ}
use Rattle.std.specs.List.{cons_option, enumerate_from}
use Rattle.definitions.specs.Analyzers.{Analyzer}
use Rattle.definitions.specs.Answers.{answer_at, answers}
use Rattle.definitions.specs.Postings.{posting_of, postings}
use Rattle.definitions.specs.Query.{term}
use Rattle.definitions.specs.Recorded.{count_of, holds, positions_of}
use Rattle.definitions.specs.Schema.{IndexRecordOption, Schema}
use Rattle.definitions.specs.Scoring.{Similarity, length_id, part, query_count, score}
use Rattle.definitions.specs.Terms.{field_of}
use Rattle.definitions.specs.Values.{Document}
use Rattle.segment_reader.specs.OpenedTerms.{entry_as}
use Rattle.docsets.specs.ScoredEntries.{pairs_of}
use Rattle.term_scorer.specs.TermScores.{TermSimilarity, term_scored}
use Rattle.segment_reader.specs.LengthIds.{AreIds}

-- the length id of each document stands at its place, counted from a number
abbrev pub AreIdsFrom : (Document → ℕ) → ℕ → List Document → List ℕ → Type 0
AreIdsFrom id n docs ids = (place : ℕ) (doc : Document) → slice_get docs place ≡ Some doc → slice_index ids (n + place) ≡ id doc

ids_next : (id : Document → ℕ) (n : ℕ) (doc : Document) (docs : List Document) (ids : List ℕ) → AreIdsFrom id n (doc ∷ docs) ids → AreIdsFrom id (n + 1) docs ids
ids_next id n doc docs ids are place d is =
    ap (slice_index ids) (let same : n + 1 + place ≡ n + suc place = omega arith in same) ∙ are (suc place) d is

module _ (schema : Schema) (analyze : Analyzer) (sim : Similarity) (b : ℕ) (t : List ℕ) (option : IndexRecordOption) where
  -- the weight of the term, under the boost
  abbrev pub by_term : TermSimilarity
  by_term = record { weight = sim.weight t; boost = b; norms = sim.norms }

  scored_from : (n : ℕ) (docs : List Document) (ids : List ℕ) → AreIdsFrom (length_id schema analyze (field_of t)) n docs ids
      → pairs_of (term_scored by_term ids (map (entry_as option) (filter_map (posting_of schema analyze t) (enumerate_from n docs)))) ≡ filter_map (answer_at schema analyze sim b (term t option)) (enumerate_from n docs)
  scored_from n [] ids are = refl
  scored_from n (doc ∷ docs) ids are =
      let rest = scored_from (n + 1) docs ids (ids_next (length_id schema analyze (field_of t)) n doc docs ids are) in
      let id : slice_index ids n ≡ length_id schema analyze (field_of t) doc = ap (slice_index ids) (let same : n ≡ n + 0 = omega arith in same) ∙ are 0 doc refl in
      let scored = ap (λ i. b * part (sim.weight t) (query_count schema analyze t option doc) (slice_index sim.norms i)) id in
      go (holds schema analyze t doc) rest scored
    where
      go : (h : Bool)
          → pairs_of (term_scored by_term ids (map (entry_as option) (filter_map (posting_of schema analyze t) (enumerate_from (n + 1) docs)))) ≡ filter_map (answer_at schema analyze sim b (term t option)) (enumerate_from (n + 1) docs)
          → b * part (sim.weight t) (query_count schema analyze t option doc) (slice_index sim.norms (slice_index ids n)) ≡ score schema analyze sim doc b (term t option)
          → pairs_of (term_scored by_term ids (map (entry_as option) (cons_option (if h then Some (record { doc = n; count = count_of schema analyze t doc; positions = positions_of schema analyze t doc }) else None) (filter_map (posting_of schema analyze t) (enumerate_from (n + 1) docs)))))
          ≡ cons_option (if h then Some (n, score schema analyze sim doc b (term t option)) else None) (filter_map (answer_at schema analyze sim b (term t option)) (enumerate_from (n + 1) docs))
      go true rest scored = ap (λ s. (n, s) ∷ pairs_of (term_scored by_term ids (map (entry_as option) (filter_map (posting_of schema analyze t) (enumerate_from (n + 1) docs))))) scored ∙ ap (λ ps. (n, score schema analyze sim doc b (term t option)) ∷ ps) rest
      go false rest scored = rest

  -- the postings of a term with their scores are the documents that match it with theirs
  pub term_answers : (docs : List Document) (ids : List ℕ) → AreIds (length_id schema analyze (field_of t)) docs ids
      → pairs_of (term_scored by_term ids (map (entry_as option) (postings schema analyze t docs))) ≡ answers schema analyze sim b (term t option) docs
  term_answers docs ids are = scored_from 0 docs ids (λ place doc is. ap (slice_index ids) (let same : 0 + place ≡ place = omega arith in same) ∙ are place doc is)
