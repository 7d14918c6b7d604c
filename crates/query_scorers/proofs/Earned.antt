-- What one document earns from a query, and what all of a segment answer.
use Rattle.std.proofs.Common.{[], Bool, List, None, Some, ap, arith, false, filter_map, if◌then◌else◌, length, refl, slice_get, subst, suc, sym, true, zero, ◌+◌, ◌<◌, ◌==◌, ◌∙◌, ◌∷◌, ◌≡◌, ◌≤◌, ℕ}
use Rattle.std.specs.List.{cons_option, enumerate_from}
use Rattle.std.proofs.lemmas.Bool.Decides.{nat_tests}
use Rattle.any_scorer.proofs.SamePairs.{paired, scores_paired}
use Rattle.any_scorer.specs.Clauses.{scores_of}
use Rattle.docsets.specs.Entries.{Entry, Rising, from}
use Rattle.docsets.proofs.EntryLaws.{from-low, from-out}
use Rattle.definitions.specs.Analyzers.{Analyzer}
use Rattle.definitions.specs.Answers.{answer_at, answers}
use Rattle.definitions.specs.Matching.{matches}
use Rattle.definitions.specs.Query.{Query}
use Rattle.definitions.specs.Schema.{Schema}
use Rattle.definitions.specs.ScoredLists.{ScoredList}
use Rattle.definitions.specs.Scoring.{Similarity, score}
use Rattle.definitions.specs.Values.{Document}
use Rattle.docsets.specs.ScoredEntries.{pairs_of}
use Rattle.definitions.proofs.Lists.{by_order as by_place}
use Rattle.docsets.proofs.MemberLaws.{entries-before}
use Rattle.docsets.specs.Members.{entries_of, scores_in}

-- the score of a document that matches
abbrev pub earned : Schema → Analyzer → Similarity → ℕ → Document → Query → List ℕ
earned schema analyze sim b doc q = if matches schema analyze doc q then score schema analyze sim doc b q ∷ [] else []

module _ (schema : Schema) (analyze : Analyzer) (sim : Similarity) (b : ℕ) (q : Query) where
  -- what documents answer whose indices are counted from a number
  abbrev pub answers_from : ℕ → List Document → ScoredList
  answers_from n docs = filter_map (answer_at schema analyze sim b q) (enumerate_from n docs)

  one_more : (n : ℕ) (doc : Document) (docs : List Document) (m : Bool) (s : ℕ) → matches schema analyze doc q ≡ m → score schema analyze sim doc b q ≡ s → answers_from n (doc ∷ docs) ≡ (if m then (n, s) ∷ answers_from (n + 1) docs else answers_from (n + 1) docs)
  one_more n doc docs m s same scores =
      ap (λ t. cons_option (if t then Some (n, score schema analyze sim doc b q) else None) (answers_from (n + 1) docs)) same
      ∙ (elim m as (λ t. cons_option (if t then Some (n, score schema analyze sim doc b q) else None) (answers_from (n + 1) docs) ≡ (if t then (n, s) ∷ answers_from (n + 1) docs else answers_from (n + 1) docs)) [
        | true ↦ ap (λ x. (n, x) ∷ answers_from (n + 1) docs) scores
        | false ↦ refl
      ])

  -- ---- one document of the answers

  before : (d n : ℕ) (docs : List Document) → d < n → scores_paired d (answers_from n docs) ≡ []
  before d n [] l = refl
  before d n (doc ∷ docs) l =
      let ih = before d (n + 1) docs (omega (arith, l)) in
      let other : (d == n) ≡ false = grind (arith, nat_tests, l) in
      ap (scores_paired d) (one_more n doc docs (matches schema analyze doc q) (score schema analyze sim doc b q) refl refl)
      ∙ (elim (matches schema analyze doc q) as (λ m. scores_paired d (if m then (n, score schema analyze sim doc b q) ∷ answers_from (n + 1) docs else answers_from (n + 1) docs) ≡ []) [
        | true ↦ ap (λ t. if t then score schema analyze sim doc b q ∷ scores_paired d (answers_from (n + 1) docs) else scores_paired d (answers_from (n + 1) docs)) other ∙ ih
        | false ↦ ih
      ])

  behind : (d n : ℕ) (docs : List Document) → n + length docs ≤ d → scores_paired d (answers_from n docs) ≡ []
  behind d n [] l = refl
  behind d n (doc ∷ docs) l =
      let ih = behind d (n + 1) docs (omega (arith, l)) in
      let other : (d == n) ≡ false = (let far : n < d = omega (arith, l) in grind (arith, nat_tests, far)) in
      ap (scores_paired d) (one_more n doc docs (matches schema analyze doc q) (score schema analyze sim doc b q) refl refl)
      ∙ (elim (matches schema analyze doc q) as (λ m. scores_paired d (if m then (n, score schema analyze sim doc b q) ∷ answers_from (n + 1) docs else answers_from (n + 1) docs) ≡ []) [
        | true ↦ ap (λ t. if t then score schema analyze sim doc b q ∷ scores_paired d (answers_from (n + 1) docs) else scores_paired d (answers_from (n + 1) docs)) other ∙ ih
        | false ↦ ih
      ])

  at_place : (d n : ℕ) (docs : List Document) (doc : Document) → slice_get docs d ≡ Some doc → scores_paired (n + d) (answers_from n docs) ≡ earned schema analyze sim b doc q
  at_place d n [] doc is = absurd (let no : ⊥ = cc in no)
  at_place zero n (x ∷ docs) doc is =
      let same : x ≡ doc = cc in
      let at : (n + 0 == n) ≡ true = grind (arith, nat_tests) in
      let rest : scores_paired (n + 0) (answers_from (n + 1) docs) ≡ [] = before (n + 0) (n + 1) docs (omega arith) in
      ap (scores_paired (n + 0)) (one_more n x docs (matches schema analyze x q) (score schema analyze sim x b q) refl refl)
      ∙ ((elim (matches schema analyze x q) as (λ m. scores_paired (n + 0) (if m then (n, score schema analyze sim x b q) ∷ answers_from (n + 1) docs else answers_from (n + 1) docs) ≡ (if m then score schema analyze sim x b q ∷ [] else [])) [
        | true ↦ ap (λ t. if t then score schema analyze sim x b q ∷ scores_paired (n + 0) (answers_from (n + 1) docs) else scores_paired (n + 0) (answers_from (n + 1) docs)) at ∙ ap (λ xs. score schema analyze sim x b q ∷ xs) rest
        | false ↦ rest
      ]) ∙ ap (λ y. earned schema analyze sim b y q) same)
  at_place (suc d) n (x ∷ docs) doc is =
      let other : (n + suc d == n) ≡ false = grind (arith, nat_tests) in
      let ih : scores_paired (n + suc d) (answers_from (n + 1) docs) ≡ earned schema analyze sim b doc q = ap (λ k. scores_paired k (answers_from (n + 1) docs)) (let same : n + suc d ≡ n + 1 + d = omega arith in same) ∙ at_place d (n + 1) docs doc is in
      ap (scores_paired (n + suc d)) (one_more n x docs (matches schema analyze x q) (score schema analyze sim x b q) refl refl)
      ∙ (elim (matches schema analyze x q) as (λ m. scores_paired (n + suc d) (if m then (n, score schema analyze sim x b q) ∷ answers_from (n + 1) docs else answers_from (n + 1) docs) ≡ earned schema analyze sim b doc q) [
        | true ↦ ap (λ t. if t then score schema analyze sim x b q ∷ scores_paired (n + suc d) (answers_from (n + 1) docs) else scores_paired (n + suc d) (answers_from (n + 1) docs)) other ∙ ih
        | false ↦ ih
      ])

  pub earned_there : (docs : List Document) (es : List Entry) → pairs_of es ≡ answers schema analyze sim b q docs → (d : ℕ) (doc : Document) → slice_get docs d ≡ Some doc → scores_of d es ≡ earned schema analyze sim b doc q
  earned_there docs es same d doc is = paired d es ∙ (ap (scores_paired d) same ∙ (ap (λ k. scores_paired k (answers_from 0 docs)) (let at : d ≡ 0 + d = omega arith in at) ∙ at_place d 0 docs doc is))

  pub earned_nowhere : (docs : List Document) (es : List Entry) → pairs_of es ≡ answers schema analyze sim b q docs → (d : ℕ) → length docs ≤ d → scores_of d es ≡ []
  earned_nowhere docs es same d l = paired d es ∙ (ap (scores_paired d) same ∙ behind d 0 docs (omega (arith, l)))

  -- ---- a list that has for each document what it earns

  none_earned : (n : ℕ) (doc : Document) (docs : List Document) → [] ≡ earned schema analyze sim b doc q → answers_from n (doc ∷ docs) ≡ answers_from (n + 1) docs
  none_earned n doc docs none =
      (elim (matches schema analyze doc q) as (λ m. matches schema analyze doc q ≡ m → [] ≡ (if m then score schema analyze sim doc b q ∷ [] else []) → answers_from n (doc ∷ docs) ≡ answers_from (n + 1) docs) [
        | true ↦ (λ is no_score. absurd (let no : ⊥ = cc in no))
        | false ↦ (λ is no_score. one_more n doc docs false (score schema analyze sim doc b q) is refl)
      ]) refl none

  one_earned : (n s : ℕ) (doc : Document) (docs : List Document) → s ∷ [] ≡ earned schema analyze sim b doc q → answers_from n (doc ∷ docs) ≡ (n, s) ∷ answers_from (n + 1) docs
  one_earned n s doc docs one =
      (elim (matches schema analyze doc q) as (λ m. matches schema analyze doc q ≡ m → s ∷ [] ≡ (if m then score schema analyze sim doc b q ∷ [] else []) → answers_from n (doc ∷ docs) ≡ (n, s) ∷ answers_from (n + 1) docs) [
        | true ↦ (λ is a_score. one_more n doc docs true s is (let same : score schema analyze sim doc b q ≡ s = cc in same))
        | false ↦ (λ is a_score. absurd (let no : ⊥ = cc in no))
      ]) refl one

  none_of_none : (d : ℕ) → scores_of d [] ≡ []
  none_of_none d = refl

  first_of : (e : Entry) (es : List Entry) → Rising (e.doc + 1) es → scores_of e.doc (e ∷ es) ≡ e.score ∷ []
  first_of e es r = let n : ℕ = e.doc in let at : (n == n) ≡ true = grind (arith, nat_tests) in
      ap (λ t. scores_in (if t then e ∷ entries_of e.doc es else entries_of e.doc es)) at
      ∙ ap (λ xs. e.score ∷ scores_in xs) (entries-before e.doc (e.doc + 1) es r (omega arith))

  later : (d : ℕ) (e : Entry) (es : List Entry) → e.doc < d → scores_of d (e ∷ es) ≡ scores_of d es
  later d e es l = let n : ℕ = e.doc in let other : (d == n) ≡ false = grind (arith, nat_tests, l) in
      ap (λ t. scores_in (if t then e ∷ entries_of d es else entries_of d es)) other

  answered_from : (docs : List Document) (n : ℕ) (es : List Entry) → Rising n es → from (n + length docs) es ≡ [] → ((d : ℕ) (doc : Document) → slice_get docs d ≡ Some doc → scores_of (n + d) es ≡ earned schema analyze sim b doc q) → pairs_of es ≡ answers_from n docs
  answered_from [] n es r within each = ap pairs_of (sym (from-low (n + 0) n es (omega arith) r) ∙ within)
  answered_from (doc ∷ docs) n [] r within each =
      let here : [] ≡ earned schema analyze sim b doc q = each 0 doc refl in
      let ih = answered_from docs (n + 1) [] tt refl (λ d x is. each (suc d) x is) in
      ih ∙ sym (none_earned n doc docs here)
  answered_from (doc ∷ docs) n (e ∷ es) r within each =
      let low = r.0 in
      let size : n + length (doc ∷ docs) ≡ n + 1 + length docs = omega arith in
      let next : (d : ℕ) → n + suc d ≡ n + 1 + d = λ d. omega arith in
      let at_first : scores_of n (e ∷ es) ≡ earned schema analyze sim b doc q = ap (λ k. scores_of k (e ∷ es)) (let same : n ≡ n + 0 = omega arith in same) ∙ each 0 doc refl in
      by_place e.doc n (pairs_of (e ∷ es) ≡ answers_from n (doc ∷ docs))
      (λ u. (let at : e.doc ≡ n = omega (arith, u, low) in
      let score_here : e.score ∷ [] ≡ earned schema analyze sim b doc q = sym (first_of e es r.3) ∙ (ap (λ k. scores_of k (e ∷ es)) at ∙ at_first) in
      let rest : from (n + length (doc ∷ docs)) es ≡ [] = sym (from-out (n + length (doc ∷ docs)) e es (omega (arith, at))) ∙ within in
      let ih = answered_from docs (n + 1) es (subst (λ k. Rising (k + 1) es) at r.3) (ap (λ k. from k es) (sym size) ∙ rest)
      (λ d x is. sym (later (n + 1 + d) e es (omega (arith, at))) ∙ (ap (λ k. scores_of k (e ∷ es)) (sym (next d)) ∙ each (suc d) x is)) in
      ap (λ k. (k, e.score) ∷ pairs_of es) at ∙ (ap (λ ps. (n, e.score) ∷ ps) ih ∙ sym (one_earned n e.score doc docs score_here))))
      (λ o. (let here : [] ≡ earned schema analyze sim b doc q = sym (ap scores_in (entries-before n (n + 1) (e ∷ es) (omega (arith, o), r.1, r.2, r.3) (omega arith))) ∙ at_first in
      let ih = answered_from docs (n + 1) (e ∷ es) (omega (arith, o), r.1, r.2, r.3) (ap (λ k. from k (e ∷ es)) (sym size) ∙ within) (λ d x is. ap (λ k. scores_of k (e ∷ es)) (sym (next d)) ∙ each (suc d) x is) in
      ih ∙ sym (none_earned n doc docs here)))

  pub answered : (docs : List Document) (es : List Entry) → Rising 0 es → from (length docs) es ≡ [] → ((d : ℕ) (doc : Document) → slice_get docs d ≡ Some doc → scores_of d es ≡ earned schema analyze sim b doc q) → pairs_of es ≡ answers schema analyze sim b q docs
  answered docs es r within each =
      answered_from docs 0 es r (ap (λ k. from k es) (let same : 0 + length docs ≡ length docs = omega arith in same) ∙ within) (λ d doc is. ap (λ k. scores_of k es) (let same : 0 + d ≡ d = omega arith in same) ∙ each d doc is)
