-- What a document earns from clauses, and from the best of several queries, by what it earns from each.
use Rattle.std.proofs.Common.{[], Bool, List, ap, arith, cond, count_by, false, flat_map, if◌then◌else◌, length, nat_le, not, refl, suc, sum, sym, true, ◌&&◌, ◌++◌, ◌+◌, ◌||◌, ◌∙◌, ◌∷◌, ◌≡◌, ◌≤◌, ℕ, ℤ}
use Rattle.std.proofs.lemmas.Bool.Decides.{nat_tests}
use Rattle.std.proofs.lemmas.List.Sums.{sum_by-cons}
use Rattle.std.specs.List.{list_all, list_any}
use Rattle.definitions.specs.Analyzers.{Analyzer}
use Rattle.definitions.specs.Matching.{agrees, answers_of, is_counted, is_met_should, matches, some_match}
use Rattle.definitions.specs.Query.{Clauses, Queries, Query, boolean, clause, disjunction_max, must, must_not, no_clauses, no_queries, query, should}
use Rattle.definitions.specs.Schema.{Schema}
use Rattle.definitions.specs.Scoring.{Similarity, best_and_tie, clause_scores, natural, query_scores, score}
use Rattle.definitions.specs.Values.{Document}
use Rattle.docsets.specs.CombiningLaws.{sum-cons}
use Rattle.query_scorers.proofs.Earned.{earned}
use Rattle.query_scorers.specs.Asked.{asked}
use Rattle.query_trees.specs.Walks.{queries_list}

module _ (schema : Schema) (analyze : Analyzer) (sim : Similarity) (b : ℕ) (doc : Document) where
  -- what it earns from several queries
  abbrev pub all_earned : List Query → List ℕ
  all_earned qs = flat_map (earned schema analyze sim b doc) qs

  few_earned : (qs : List Query) → length (all_earned qs) ≤ length qs
  few_earned [] = omega arith
  few_earned (q ∷ qs) =
      let ih = few_earned qs in
      elim (matches schema analyze doc q) as (λ m. length ((if m then score schema analyze sim doc b q ∷ [] else []) ++ all_earned qs) ≤ length (q ∷ qs)) [
        | true ↦ omega (arith, ih)
        | false ↦ omega (arith, ih)
      ]

  -- ---- which clauses agree

  agree_test : Clauses → Bool
  agree_test cs = nat_le (length (asked must cs)) (length (all_earned (asked must cs))) && not (nat_le 1 (length (all_earned (asked must_not cs))))

  agree : (cs : Clauses) → list_all agrees (answers_of schema analyze doc cs) ≡ agree_test cs
  unfolding agree_test
  agree no_clauses = refl
  agree (clause must q cs) =
      ap (λ t. matches schema analyze doc q && t) (agree cs)
      ∙ (let few = few_earned (asked must cs) in
      let rest : Bool = not (nat_le 1 (length (all_earned (asked must_not cs)))) in
      elim (matches schema analyze doc q) as (λ m. (m && (nat_le (length (asked must cs)) (length (all_earned (asked must cs))) && rest)) ≡ (nat_le (length (q ∷ asked must cs)) (length ((if m then score schema analyze sim doc b q ∷ [] else []) ++ all_earned (asked must cs))) && rest)) [
        | true ↦ ap (λ t. t && rest) (more (length (asked must cs)) (length (all_earned (asked must cs))))
        | false ↦ sym (ap (λ t. t && rest) (lacks (length (asked must cs)) (length (all_earned (asked must cs))) few))
      ])
    where
      more : (m n : ℕ) → nat_le m n ≡ nat_le (suc m) (suc n)
      more m n = grind (arith, nat_tests)

      lacks : (m n : ℕ) → n ≤ m → nat_le (suc m) n ≡ false
      lacks m n l = grind (arith, nat_tests, l)
  agree (clause should q cs) = agree cs
  agree (clause must_not q cs) =
      ap (λ t. not (matches schema analyze doc q) && t) (agree cs)
      ∙ (let first : Bool = nat_le (length (asked must cs)) (length (all_earned (asked must cs))) in
      elim (matches schema analyze doc q) as (λ m. (not m && (first && not (nat_le 1 (length (all_earned (asked must_not cs)))))) ≡ (first && not (nat_le 1 (length ((if m then score schema analyze sim doc b q ∷ [] else []) ++ all_earned (asked must_not cs)))))) [
        | true ↦ sym (ap (λ t. first && not t) (one (length (all_earned (asked must_not cs)))) ∙ no_more first)
        | false ↦ refl
      ])
    where
      one : (n : ℕ) → nat_le 1 (suc n) ≡ true
      one n = grind (arith, nat_tests)

      no_more : (t : Bool) → (t && false) ≡ false
      no_more true = refl
      no_more false = refl

  counted_either : (m : Bool) (n : ℕ) → (m || nat_le 1 n) ≡ nat_le 1 ((if m then 1 else 0) + n)
  counted_either true n = let some : nat_le 1 (1 + n) ≡ true = grind (arith, nat_tests) in sym some
  counted_either false n = let same : n ≡ 0 + n = omega arith in ap (nat_le 1) same

  length_earned : (m : Bool) (s : ℕ) (xs : List ℕ) → length ((if m then s ∷ [] else []) ++ xs) ≡ (if m then 1 else 0) + length xs
  length_earned true s xs = omega arith
  length_earned false s xs = omega arith

  sum_earned : (m : Bool) (s : ℕ) (xs : List ℕ) → sum ((if m then s ∷ [] else []) ++ xs) ≡ (if m then s else 0) + sum xs
  sum_earned true s xs = sum-cons s xs
  sum_earned false s xs = omega arith

  met : (cs : Clauses) → count_by is_met_should (answers_of schema analyze doc cs) ≡ length (all_earned (asked should cs))
  met no_clauses = refl
  met (clause must q cs) =
      let ih = met cs in
      let more = sum_by-cons (λ a. cond (is_met_should a) 1 0) (must, matches schema analyze doc q) (answers_of schema analyze doc cs) in
      omega (arith, ih, more)
  met (clause must_not q cs) =
      let ih = met cs in
      let more = sum_by-cons (λ a. cond (is_met_should a) 1 0) (must_not, matches schema analyze doc q) (answers_of schema analyze doc cs) in
      omega (arith, ih, more)
  met (clause should q cs) =
      let ih = met cs in
      let more = sum_by-cons (λ a. cond (is_met_should a) 1 0) (should, matches schema analyze doc q) (answers_of schema analyze doc cs) in
      let len = length_earned (matches schema analyze doc q) (score schema analyze sim doc b q) (all_earned (asked should cs)) in
      omega (arith, ih, more, len)

  counted : (cs : Clauses) → list_any (λ a. is_counted a.0 && a.1) (answers_of schema analyze doc cs) ≡ nat_le 1 (length (all_earned (asked must cs)) + length (all_earned (asked should cs)))
  counted no_clauses = refl
  counted (clause must q cs) =
      ap (λ t. matches schema analyze doc q || t) (counted cs)
      ∙ (counted_either (matches schema analyze doc q) (length (all_earned (asked must cs)) + length (all_earned (asked should cs)))
      ∙ ap (nat_le 1) (let len = length_earned (matches schema analyze doc q) (score schema analyze sim doc b q) (all_earned (asked must cs)) in let same : (if matches schema analyze doc q then 1 else 0) + (length (all_earned (asked must cs)) + length (all_earned (asked should cs))) ≡ length (earned schema analyze sim b doc q ++ all_earned (asked must cs)) + length (all_earned (asked should cs)) = omega (arith, len) in same))
  counted (clause should q cs) =
      ap (λ t. matches schema analyze doc q || t) (counted cs)
      ∙ (counted_either (matches schema analyze doc q) (length (all_earned (asked must cs)) + length (all_earned (asked should cs)))
      ∙ ap (nat_le 1) (let len = length_earned (matches schema analyze doc q) (score schema analyze sim doc b q) (all_earned (asked should cs)) in let same : (if matches schema analyze doc q then 1 else 0) + (length (all_earned (asked must cs)) + length (all_earned (asked should cs))) ≡ length (all_earned (asked must cs)) + length (earned schema analyze sim b doc q ++ all_earned (asked should cs)) = omega (arith, len) in same))
  counted (clause must_not q cs) = counted cs

  added : (cs : Clauses) → sum (clause_scores schema analyze sim doc b cs) ≡ sum (all_earned (asked must cs)) + sum (all_earned (asked should cs))
  added no_clauses = refl
  added (clause must q cs) =
      let ih = added cs in
      let first = sum_earned (matches schema analyze doc q) (score schema analyze sim doc b q) (clause_scores schema analyze sim doc b cs) in
      let second = sum_earned (matches schema analyze doc q) (score schema analyze sim doc b q) (all_earned (asked must cs)) in
      omega (arith, ih, first, second)
  added (clause should q cs) =
      let ih = added cs in
      let first = sum_earned (matches schema analyze doc q) (score schema analyze sim doc b q) (clause_scores schema analyze sim doc b cs) in
      let second = sum_earned (matches schema analyze doc q) (score schema analyze sim doc b q) (all_earned (asked should cs)) in
      omega (arith, ih, first, second)
  added (clause must_not q cs) = added cs

  -- ---- what it earns from clauses

  reordered : (a m c n : Bool) (x y : ℕ) → x ≡ y → (if a && m && c && not n then x ∷ [] else []) ≡ (if (a && not n) && m && c then y ∷ [] else [])
  reordered true true true true x y e = refl
  reordered true true true false x y e = ap (λ s. s ∷ []) e
  reordered true true false true x y e = refl
  reordered true true false false x y e = refl
  reordered true false c true x y e = refl
  reordered true false c false x y e = refl
  reordered false m c n x y e = refl

  pub earned_by_clauses : (cs : Clauses) (minimum : ℕ) → (let ms : List ℕ = all_earned (asked must cs) in let ss : List ℕ = all_earned (asked should cs) in let ns : List ℕ = all_earned (asked must_not cs) in if nat_le (length (asked must cs)) (length ms) && nat_le minimum (length ss) && nat_le 1 (length ms + length ss) && not (nat_le 1 (length ns)) then (sum ms + sum ss) ∷ [] else []) ≡ earned schema analyze sim b doc (boolean cs minimum)
  unfolding agree_test
  earned_by_clauses cs minimum =
      let total : ℕ = sum (clause_scores schema analyze sim doc b cs) in
      reordered (nat_le (length (asked must cs)) (length (all_earned (asked must cs)))) (nat_le minimum (length (all_earned (asked should cs)))) (nat_le 1 (length (all_earned (asked must cs)) + length (all_earned (asked should cs)))) (nat_le 1 (length (all_earned (asked must_not cs)))) (sum (all_earned (asked must cs)) + sum (all_earned (asked should cs))) total (sym (added cs))
      ∙ sym (ap (λ t. if t && nat_le minimum (count_by is_met_should (answers_of schema analyze doc cs)) && list_any (λ a. is_counted a.0 && a.1) (answers_of schema analyze doc cs) then total ∷ [] else []) (agree cs)
      ∙ (ap (λ n. if agree_test cs && nat_le minimum n && list_any (λ a. is_counted a.0 && a.1) (answers_of schema analyze doc cs) then total ∷ [] else []) (met cs)
      ∙ ap (λ t. if agree_test cs && nat_le minimum (length (all_earned (asked should cs))) && t then total ∷ [] else []) (counted cs)))

  -- ---- what it earns from the best of several queries

  some : (qs : Queries) → some_match schema analyze doc qs ≡ nat_le 1 (length (all_earned (queries_list qs)))
  some no_queries = refl
  some (query q qs) =
      ap (λ t. matches schema analyze doc q || t) (some qs)
      ∙ (counted_either (matches schema analyze doc q) (length (all_earned (queries_list qs)))
      ∙ ap (nat_le 1) (sym (length_earned (matches schema analyze doc q) (score schema analyze sim doc b q) (all_earned (queries_list qs)))))

  each : (qs : Queries) → query_scores schema analyze sim doc b qs ≡ all_earned (queries_list qs)
  each no_queries = refl
  each (query q qs) = ap (λ xs. earned schema analyze sim b doc q ++ xs) (each qs)

  pub earned_by_best : (qs : Queries) (tie : ℤ) → (let xs : List ℕ = all_earned (queries_list qs) in if nat_le 1 (length xs) then best_and_tie (natural tie) xs ∷ [] else []) ≡ earned schema analyze sim b doc (disjunction_max qs tie)
  earned_by_best qs tie =
      sym (ap (λ t. if t then best_and_tie (natural tie) (query_scores schema analyze sim doc b qs) ∷ [] else []) (some qs)
      ∙ ap (λ xs. if nat_le 1 (length (all_earned (queries_list qs))) then best_and_tie (natural tie) xs ∷ [] else []) (each qs))
