-- How many of the documents that are picked from rows are alive.
use Rattle.std.proofs.Common.{[], Bool, None, Option, Some, ap, arith, cond, count_by, false, filter_map, if◌then◌else◌, length, map, refl, slice_index_or, suc, sym, true, ◌&&◌, ◌+◌, ◌<◌, ◌∙◌, ◌∷◌, ◌≡◌, ℕ}
use Rattle.std.specs.List.{cons_option, enumerate_from}
use Rattle.std.proofs.lemmas.List.Sums.{sum_by-cons}
use Rattle.definitions.specs.Alive.{Segment}
use Rattle.definitions.specs.Merging.{flags_of}
use Rattle.definitions.specs.Values.{Document}
use Rattle.scorer_answers.proofs.FlagCounts.{one_row as counted}

uncounted : (flag : Bool) (n : ℕ) → n ≡ cond (flag && false) 1 0 + n
uncounted true n = omega arith
uncounted false n = omega arith

module _ {X : Type 0} (m : Document → Bool) (pick : ℕ × Document → Option X) (made : ℕ → Document → X) (place : X → ℕ) (picks : (n : ℕ) (doc : Document) → pick (n, doc) ≡ (if m doc then Some (made n doc) else None)) (at : (n : ℕ) (doc : Document) → place (made n doc) ≡ n) where
  -- those whose places have a flag are as many as the rows that are alive and picked
  pub count_picked : (f : ℕ → Bool) (n : ℕ) (rows : Segment) → ((i : ℕ) → i < length rows → f (n + i) ≡ slice_index_or (flags_of rows) i false)
      → count_by (λ x. f (place x)) (filter_map pick (enumerate_from n (map (λ row. row.0) rows))) ≡ count_by (λ row. row.1 && m row.0) rows
  count_picked f n [] agree = refl
  count_picked f n (row ∷ rows) agree =
      let ih = count_picked f (n + 1) rows (λ i l. ap f (let same : n + 1 + i ≡ n + suc i = omega arith in same) ∙ agree (suc i) (omega (arith, l))) in
      let here : f n ≡ row.1 = ap f (let same : n ≡ n + 0 = omega arith in same) ∙ agree 0 (omega arith) in
      ap (λ o. count_by (λ x. f (place x)) (cons_option o (filter_map pick (enumerate_from (n + 1) (map (λ row. row.0) rows))))) (picks n row.0)
      ∙ (go (m row.0) ih here ∙ sym (sum_by-cons (λ row. cond (row.1 && m row.0) 1 0) row rows))
    where
      go : (h : Bool) → count_by (λ x. f (place x)) (filter_map pick (enumerate_from (n + 1) (map (λ row. row.0) rows))) ≡ count_by (λ row. row.1 && m row.0) rows → f n ≡ row.1
          → count_by (λ x. f (place x)) (cons_option (if h then Some (made n row.0) else None) (filter_map pick (enumerate_from (n + 1) (map (λ row. row.0) rows)))) ≡ cond (row.1 && h) 1 0 + count_by (λ row. row.1 && m row.0) rows
      go true ih here =
          sum_by-cons (λ x. cond (f (place x)) 1 0) (made n row.0) (filter_map pick (enumerate_from (n + 1) (map (λ row. row.0) rows)))
          ∙ (ap (λ c. c + count_by (λ x. f (place x)) (filter_map pick (enumerate_from (n + 1) (map (λ row. row.0) rows)))) (ap (λ b. cond b 1 0) (ap f (at n row.0) ∙ here) ∙ counted row.1)
          ∙ ap (λ k. cond (row.1 && true) 1 0 + k) ih)
      go false ih here = ih ∙ uncounted row.1 (count_by (λ row. row.1 && m row.0) rows)
