-- Answers over a segment are those of the scan.
use Rattle.std.proofs.Common.{[], ◌+◌, ◌∙◌, ◌∷◌, ◌≡◌, Bool, List, None, Some, ap, arith, false, filter_map, if◌then◌else◌, length, map, option_map, refl, sym, true, ℕ}
use Rattle.std.specs.List.{cons_option, enumerate_from}
use Rattle.definitions.specs.Analyzers.{Analyzer}
use Rattle.definitions.specs.Answers.{answer_at, answers}
use Rattle.definitions.specs.Matching.{matches}
use Rattle.definitions.specs.Query.{Query}
use Rattle.definitions.specs.NumberedHits.{place_of, placed_found, placed_hit}
use Rattle.definitions.specs.ScoredLists.{documents_of}
use Rattle.definitions.specs.Scanning.{Hit, found, scan_count}
use Rattle.definitions.specs.Schema.{Schema}
use Rattle.definitions.specs.Scoring.{Similarity, score}
use Rattle.definitions.specs.Stored.{stored_values}
use Rattle.definitions.specs.Values.{Document}
use Rattle.std.proofs.lemmas.List.Sums.{sum_by-cons}

module _ (schema : Schema) (analyze : Analyzer) (sim : Similarity) (q : Query) where
  -- the answers of documents that are numbered from one on
  abbrev listed : ℕ → ℕ → List Document → List (ℕ × ℕ)
  listed b k docs = filter_map (answer_at schema analyze sim b q) (enumerate_from k docs)

  answered_count : (b k : ℕ) (docs : List Document) → length (listed b k docs) ≡ scan_count schema analyze docs q
  answered_count b k [] = refl
  answered_count b k (doc ∷ docs) = go (matches schema analyze doc q) (answered_count b (k + 1) docs) ∙ sym (sum_by-cons (λ d. if matches schema analyze d q then 1 else 0) doc docs)
    where
      go : (m : Bool) → length (listed b (k + 1) docs) ≡ scan_count schema analyze docs q → length (cons_option (if m then Some (k, score schema analyze sim doc b q) else None) (listed b (k + 1) docs)) ≡ (if m then 1 else 0) + scan_count schema analyze docs q
      go true h = omega (arith, h)
      go false h = omega (arith, h)

  answered_scores : (k : ℕ) (docs : List Document) → map (λ p. p.1) (listed 1 k docs) ≡ map (λ h. h.0) (found schema analyze sim docs q)
  answered_scores k [] = refl
  answered_scores k (doc ∷ docs) = go (matches schema analyze doc q) (answered_scores (k + 1) docs)
    where
      go : (m : Bool) → map (λ p. p.1) (listed 1 (k + 1) docs) ≡ map (λ h. h.0) (found schema analyze sim docs q)
          → map (λ p. p.1) (cons_option (if m then Some (k, score schema analyze sim doc 1 q) else None) (listed 1 (k + 1) docs)) ≡ map (λ h. h.0) (cons_option (if m then Some (score schema analyze sim doc 1 q, stored_values schema doc) else None) (found schema analyze sim docs q))
      go true h = ap (λ l. score schema analyze sim doc 1 q ∷ l) h
      go false h = h

  answered_places : (b k : ℕ) (docs : List Document) → map (λ p. p.0) (listed b k docs) ≡ map place_of (filter_map (placed_hit schema analyze sim q) (enumerate_from k docs))
  answered_places b k [] = refl
  answered_places b k (doc ∷ docs) = go (matches schema analyze doc q) (answered_places b (k + 1) docs)
    where
      go : (m : Bool) → map (λ p. p.0) (listed b (k + 1) docs) ≡ map place_of (filter_map (placed_hit schema analyze sim q) (enumerate_from (k + 1) docs))
          → map (λ p. p.0) (cons_option (if m then Some (k, score schema analyze sim doc b q) else None) (listed b (k + 1) docs))
          ≡ map place_of (cons_option (option_map (λ (h : Hit). (h.0, (k, h.1))) (if m then Some (score schema analyze sim doc 1 q, stored_values schema doc) else None)) (filter_map (placed_hit schema analyze sim q) (enumerate_from (k + 1) docs)))
      go true h = ap (λ l. k ∷ l) h
      go false h = h

  answered_hits : (k : ℕ) (docs : List Document) → listed 1 k docs ≡ map (λ h. (place_of h, h.0)) (filter_map (placed_hit schema analyze sim q) (enumerate_from k docs))
  answered_hits k [] = refl
  answered_hits k (doc ∷ docs) = go (matches schema analyze doc q) (answered_hits (k + 1) docs)
    where
      go : (m : Bool) → listed 1 (k + 1) docs ≡ map (λ h. (place_of h, h.0)) (filter_map (placed_hit schema analyze sim q) (enumerate_from (k + 1) docs))
          → cons_option (if m then Some (k, score schema analyze sim doc 1 q) else None) (listed 1 (k + 1) docs)
          ≡ map (λ h. (place_of h, h.0)) (cons_option (option_map (λ (h : Hit). (h.0, (k, h.1))) (if m then Some (score schema analyze sim doc 1 q, stored_values schema doc) else None)) (filter_map (placed_hit schema analyze sim q) (enumerate_from (k + 1) docs)))
      go true h = ap (λ l. (k, score schema analyze sim doc 1 q) ∷ l) h
      go false h = h

pub answers_count : (schema : Schema) (analyze : Analyzer) (sim : Similarity) (b : ℕ) (q : Query) (docs : List Document) → length (answers schema analyze sim b q docs) ≡ scan_count schema analyze docs q
answers_count schema analyze sim b q docs = answered_count schema analyze sim q b 0 docs

pub answers_scores : (schema : Schema) (analyze : Analyzer) (sim : Similarity) (q : Query) (docs : List Document) → map (λ p. p.1) (answers schema analyze sim 1 q docs) ≡ map (λ h. h.0) (found schema analyze sim docs q)
answers_scores schema analyze sim q docs = answered_scores schema analyze sim q 0 docs

pub answers_places : (schema : Schema) (analyze : Analyzer) (sim : Similarity) (b : ℕ) (q : Query) (docs : List Document) → documents_of (answers schema analyze sim b q docs) ≡ map place_of (placed_found schema analyze sim docs q)
answers_places schema analyze sim b q docs = answered_places schema analyze sim q b 0 docs

pub answers_hits : (schema : Schema) (analyze : Analyzer) (sim : Similarity) (q : Query) (docs : List Document) → answers schema analyze sim 1 q docs ≡ map (λ h. (place_of h, h.0)) (placed_found schema analyze sim docs q)
answers_hits schema analyze sim q docs = answered_hits schema analyze sim q 0 docs
