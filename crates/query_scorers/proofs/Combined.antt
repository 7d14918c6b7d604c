-- The list that is made of several cursors has what the query that holds theirs answers.
use Rattle.std.proofs.Common.{[], List, ap, arith, false, flat_map, if◌then◌else◌, length, nat_le, not, refl, sum, sym, true, ◌&&◌, ◌++◌, ◌+◌, ◌<◌, ◌∙◌, ◌∷◌, ◌≡◌, ◌≤◌, ℕ, ℤ}
use Rattle.std.proofs.lemmas.Option.{slice_get_within}
use Rattle.any_scorer.proofs.Bounded.{first_here, later_here}
use Rattle.any_scorer.proofs.ByClauses.{length_both, sum_both}
use Rattle.any_scorer.specs.Clauses.{by_best, by_clauses, scores_at, scores_of}
use Rattle.docsets.specs.Entries.{Entry, Rising, from}
use Rattle.docsets.proofs.EntryLaws.{from-out}
use Rattle.definitions.proofs.Bounds.{accepted_clauses, accepted_queries}
use Rattle.definitions.specs.Analyzers.{Analyzer}
use Rattle.definitions.specs.Postings.{terminated}
use Rattle.definitions.specs.Query.{Clauses, Queries, Query, boolean, disjunction_max, must, must_not, should}
use Rattle.definitions.specs.Schema.{Schema}
use Rattle.definitions.specs.Scoring.{Similarity, best_and_tie, natural}
use Rattle.definitions.specs.Values.{Document}
use Rattle.docsets.specs.ScoredEntries.{greatest_score}
use Rattle.definitions.proofs.Lists.{by_order as by_place}
use Rattle.docsets.specs.Members.{entries_at, greatest_sum, scores_in}
use Rattle.segment_reader.specs.SegmentReaders.{max_doc_of}
use Rattle.segment_reader.specs.declared.segment_reader.SegmentReader.{SegmentReader}
use Rattle.query_scorers.proofs.AllScores.{all_earned, as_many, as_many_scores, greatest_within, none_behind}
use Rattle.query_scorers.proofs.AskedPass.{asked_pass, queries_pass}
use Rattle.query_scorers.proofs.Bounds.{clauses_total, queries_total}
use Rattle.query_scorers.proofs.Earned.{answered, earned}
use Rattle.query_scorers.proofs.EarnedByClauses.{earned_by_best, earned_by_clauses}
use Rattle.query_scorers.specs.Asked.{asked}
use Rattle.query_scorers.specs.Scores.{AllScore, Scores}
use Rattle.query_trees.specs.Walks.{queries_list}

-- a list that has no document from a number on
none_from : (n low : ℕ) (es : List Entry) → Rising low es → ((d : ℕ) → n ≤ d → d < terminated → scores_of d es ≡ []) → from n es ≡ []
none_from n low [] r none = refl
none_from n low (e ∷ es) r none =
    by_place n e.doc (from n (e ∷ es) ≡ [])
    (λ i. absurd (let clash : e.score ∷ scores_of e.doc es ≡ [] = sym (first_here e es) ∙ none e.doc i r.1 in (let out : ⊥ = cc in out)))
    (λ o. from-out n e es o ∙ none_from n (e.doc + 1) es r.3 (λ d l t. sym (later_here d e es (omega (arith, l, o))) ∙ none d l t))

-- ---- clauses

-- what lists have of a document, by numbers
by_numbers : ℕ → ℕ → List ℕ → List ℕ → List ℕ → List ℕ
by_numbers minimum n ms ss ns = if nat_le n (length ms) && nat_le minimum (length ss) && nat_le 1 (length ms + length ss) && not (nat_le 1 (length ns)) then (sum ms + sum ss) ∷ [] else []

numbered : (minimum d n : ℕ) (musts shoulds must_nots : List (List Entry)) → length musts ≡ n → by_clauses minimum musts shoulds must_nots d ≡ by_numbers minimum n (scores_at d musts) (scores_at d shoulds) (scores_at d must_nots)
unfolding by_numbers
numbered minimum d n musts shoulds must_nots many =
    let made : ℕ → ℕ → ℕ → ℕ → ℕ → ℕ → List ℕ = λ k a m c e t. if nat_le k a && nat_le minimum m && nat_le 1 c && not (nat_le 1 e) then t ∷ [] else [] in
    let a : ℕ = length (scores_at d musts) in
    let m : ℕ = length (scores_at d shoulds) in
    let both : length (entries_at d (musts ++ shoulds)) ≡ a + m = (let len = length_both d musts shoulds in let first = as_many_scores d musts in let second = as_many_scores d shoulds in omega (arith, len, first, second)) in
    ap (λ k. made k (length (entries_at d musts)) (length (entries_at d shoulds)) (length (entries_at d (musts ++ shoulds))) (length (entries_at d must_nots)) (sum (scores_at d (musts ++ shoulds)))) many
    ∙ (ap (λ k. made n k (length (entries_at d shoulds)) (length (entries_at d (musts ++ shoulds))) (length (entries_at d must_nots)) (sum (scores_at d (musts ++ shoulds)))) (as_many_scores d musts)
    ∙ (ap (λ k. made n a k (length (entries_at d (musts ++ shoulds))) (length (entries_at d must_nots)) (sum (scores_at d (musts ++ shoulds)))) (as_many_scores d shoulds)
    ∙ (ap (λ k. made n a m k (length (entries_at d must_nots)) (sum (scores_at d (musts ++ shoulds)))) both
    ∙ (ap (λ k. made n a m (a + m) k (sum (scores_at d (musts ++ shoulds)))) (as_many_scores d must_nots)
    ∙ ap (λ k. made n a m (a + m) (length (scores_at d must_nots)) k) (sum_both d musts shoulds)))))

-- no score is made of none
numbers_of_none : (minimum n : ℕ) (ns : List ℕ) → by_numbers minimum n [] [] ns ≡ []
unfolding by_numbers
numbers_of_none minimum n ns =
    elim (nat_le n 0 && nat_le minimum 0) as (λ t. (if t && false && not (nat_le 1 (length ns)) then (sum [] + sum []) ∷ [] else []) ≡ []) [
      | true ↦ refl
      | false ↦ refl
    ]

-- ---- the best of several

best_numbered : (tie d : ℕ) (ess : List (List Entry)) → by_best tie ess d ≡ (if nat_le 1 (length (scores_at d ess)) then best_and_tie tie (scores_at d ess) ∷ [] else [])
best_numbered tie d ess = ap (λ n. if nat_le 1 n then best_and_tie tie (scores_at d ess) ∷ [] else []) (as_many_scores d ess)

module _ (sim : Similarity) (b : ℕ) (r : SegmentReader) (few : max_doc_of r ≤ terminated) where
  abbrev earned_of : Schema → Analyzer → Document → List Query → List ℕ
  earned_of schema analyze doc qs = flat_map (earned schema analyze sim b doc) qs

  shown : (schema : Schema) (analyze : Analyzer) (doc : Document) (cs : Clauses) (minimum : ℕ) → by_numbers minimum (length (asked must cs)) (earned_of schema analyze doc (asked must cs)) (earned_of schema analyze doc (asked should cs)) (earned_of schema analyze doc (asked must_not cs)) ≡ earned schema analyze sim b doc (boolean cs minimum)
  unfolding by_numbers
  shown schema analyze doc cs minimum = earned_by_clauses schema analyze sim b doc cs minimum

  pub clauses_score : (cs : Clauses) (minimum : ℕ) (musts shoulds must_nots : List (List Entry)) (list : List Entry) → AllScore sim b r (asked must cs) musts → AllScore sim b r (asked should cs) shoulds → AllScore sim b r (asked must_not cs) must_nots → ((d : ℕ) → d < terminated → scores_of d list ≡ by_clauses minimum musts shoulds must_nots d) → greatest_score list ≤ greatest_sum musts + greatest_sum shoulds → Rising 0 list → Scores sim b (boolean cs minimum) r list
  clauses_score cs minimum musts shoulds must_nots list all_musts all_shoulds all_nots are bounded rises =
      let n : ℕ = length (asked must cs) in
      let many = as_many sim b r (asked must cs) musts all_musts in
      let numbers : (d : ℕ) → d < terminated → scores_of d list ≡ by_numbers minimum n (scores_at d musts) (scores_at d shoulds) (scores_at d must_nots) = λ d l. are d l ∙ numbered minimum d n musts shoulds must_nots many in
      let within : from (max_doc_of r) list ≡ [] = none_from (max_doc_of r) 0 list rises (λ d l t. numbers d t
      ∙ (ap (λ es. by_numbers minimum n (scores_in es) (scores_at d shoulds) (scores_at d must_nots)) (none_behind sim b r d l (asked must cs) musts all_musts)
      ∙ (ap (λ es. by_numbers minimum n [] (scores_in es) (scores_at d must_nots)) (none_behind sim b r d l (asked should cs) shoulds all_shoulds)
      ∙ numbers_of_none minimum n (scores_at d must_nots)))) in
      record {
        answers_are = λ schema analyze docs stands passes. (let each = accepted_clauses schema sim.weight b cs minimum passes in answered schema analyze sim b (boolean cs minimum) docs list rises (ap (λ k. from k list) stands.many ∙ within) (λ d doc is.
            (let inside = slice_get_within docs d doc is in
            let as_long = stands.many in
            numbers d (omega (arith, inside, as_long, few))
            ∙ (ap (λ xs. by_numbers minimum n xs (scores_at d shoulds) (scores_at d must_nots)) (all_earned sim b r schema analyze docs stands d doc is (asked must cs) musts (asked_pass schema sim.weight b must cs each) all_musts)
            ∙ (ap (λ xs. by_numbers minimum n (earned_of schema analyze doc (asked must cs)) xs (scores_at d must_nots)) (all_earned sim b r schema analyze docs stands d doc is (asked should cs) shoulds (asked_pass schema sim.weight b should cs each) all_shoulds)
            ∙ (ap (λ xs. by_numbers minimum n (earned_of schema analyze doc (asked must cs)) (earned_of schema analyze doc (asked should cs)) xs) (all_earned sim b r schema analyze docs stands d doc is (asked must_not cs) must_nots (asked_pass schema sim.weight b must_not cs each) all_nots)
            ∙ shown schema analyze doc cs minimum))))));
        within = within;
        bounded = (let first = greatest_within sim b r (asked must cs) musts all_musts in let second = greatest_within sim b r (asked should cs) shoulds all_shoulds in let total = clauses_total sim.weight b cs in omega (arith, first, second, total, bounded));
      }

  pub best_scores : (qs : Queries) (tie : ℤ) (ess : List (List Entry)) (list : List Entry) → AllScore sim b r (queries_list qs) ess → ((d : ℕ) → d < terminated → scores_of d list ≡ by_best (natural tie) ess d) → greatest_score list ≤ greatest_sum ess → Rising 0 list → Scores sim b (disjunction_max qs tie) r list
  best_scores qs tie ess list all are bounded rises =
      let made : List ℕ → List ℕ = λ xs. if nat_le 1 (length xs) then best_and_tie (natural tie) xs ∷ [] else [] in
      let numbers : (d : ℕ) → d < terminated → scores_of d list ≡ made (scores_at d ess) = λ d l. are d l ∙ best_numbered (natural tie) d ess in
      let within : from (max_doc_of r) list ≡ [] = none_from (max_doc_of r) 0 list rises (λ d l t. numbers d t ∙ ap (λ es. made (scores_in es)) (none_behind sim b r d l (queries_list qs) ess all)) in
      record {
        answers_are = λ schema analyze docs stands passes. (let each = accepted_queries schema sim.weight b qs tie passes in answered schema analyze sim b (disjunction_max qs tie) docs list rises (ap (λ k. from k list) stands.many ∙ within) (λ d doc is.
            (let inside = slice_get_within docs d doc is in
            let as_long = stands.many in
            numbers d (omega (arith, inside, as_long, few))
            ∙ (ap made (all_earned sim b r schema analyze docs stands d doc is (queries_list qs) ess (queries_pass schema sim.weight b qs each) all)
            ∙ earned_by_best schema analyze sim b doc qs tie))));
        within = within;
        bounded = (let most = greatest_within sim b r (queries_list qs) ess all in let total = queries_total sim.weight b qs in omega (arith, most, total, bounded));
      }
