-- The union of several lists doesn't depend on their order.
use Rattle.std.proofs.Common.{IsPermutation, [], List, ap, arith, length, refl, sum, sum_by, sym, ◌∙◌, ◌∷◌, ◌≡◌, nat_le, ℕ}
use Rattle.std.proofs.lemmas.List.{length-append, length-map}
use Rattle.std.proofs.lemmas.List.Sorted.{sum_by-IsPermutation}
use Rattle.std.proofs.lemmas.List.Sums.{sum_by-cons}
use Rattle.docsets.proofs.MemberLaws.{sum-scores}
use Rattle.docsets.specs.Entries.{Entry}
use Rattle.docsets.specs.Members.{enough, entries_at, entries_of, greatest_sum, joining, scores_in}
use Rattle.docsets.specs.ScoredEntries.{greatest_score, pairs_of}
use Rattle.walks.proofs.MeetingOrders.{pairs_listed}
use Rattle.walks.specs.Unions.{union}

-- what is added up over the lists
greatest_by : (ess : List (List Entry)) → greatest_sum ess ≡ sum_by greatest_score ess
greatest_by [] = refl
greatest_by (es ∷ ess) = (let ih = greatest_by ess in let more = sum_by-cons greatest_score es ess in omega (arith, ih, more))

count_by_lists : (d : ℕ) (ess : List (List Entry)) → length (entries_at d ess) ≡ sum_by (λ es. length (entries_of d es)) ess
count_by_lists d [] = refl
count_by_lists d (es ∷ ess) =
    let ih = count_by_lists d ess in
    let more = sum_by-cons (λ (xs : List Entry). length (entries_of d xs)) es ess in
    let both = length-append (entries_of d es) (entries_at d ess) in
    omega (arith, ih, more, both)

score_by_lists : (d : ℕ) (ess : List (List Entry)) → sum (scores_in (entries_at d ess)) ≡ sum_by (λ es. sum (scores_in (entries_of d es))) ess
score_by_lists d [] = refl
score_by_lists d (es ∷ ess) =
    let ih = score_by_lists d ess in
    let more = sum_by-cons (λ (xs : List Entry). sum (scores_in (entries_of d xs))) es ess in
    let both = sum-scores (entries_of d es) (entries_at d ess) in
    omega (arith, ih, more, both)

module _ (ess fss : List (List Entry)) (moved : IsPermutation ess fss) where
  pub greatest_moved : greatest_sum fss ≡ greatest_sum ess
  greatest_moved = greatest_by fss ∙ (sum_by-IsPermutation greatest_score ess fss moved ∙ sym (greatest_by ess))

  count_moved : (d : ℕ) → length (entries_at d fss) ≡ length (entries_at d ess)
  count_moved d = count_by_lists d fss ∙ (sum_by-IsPermutation (λ es. length (entries_of d es)) ess fss moved ∙ sym (count_by_lists d ess))

  score_moved : (d : ℕ) → sum (scores_in (entries_at d fss)) ≡ sum (scores_in (entries_at d ess))
  score_moved d = score_by_lists d fss ∙ (sum_by-IsPermutation (λ es. sum (scores_in (entries_of d es))) ess fss moved ∙ sym (score_by_lists d ess))

  pub pairs_moved : pairs_of (union fss) ≡ pairs_of (union ess)
  pairs_moved = pairs_listed (enough 1 fss) (enough 1 ess) (λ d. joining d (entries_at d fss)) (λ d. joining d (entries_at d ess)) 0 (λ d. ap (nat_le 1) (count_moved d)) score_moved

  pub length_moved : length (union fss) ≡ length (union ess)
  length_moved =
      let pairs = ap length pairs_moved in
      let new = length-map {B = ℕ × ℕ} (union fss) (λ e. (e.doc, e.score)) in
      let old = length-map {B = ℕ × ℕ} (union ess) (λ e. (e.doc, e.score)) in
      omega (arith, pairs, new, old)
