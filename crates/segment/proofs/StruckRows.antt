-- Where the documents of a term's postings before an end die, the rows are those of a deletion.
use Rattle.std.proofs.Common.{[], ◌&&◌, ◌++◌, ◌+◌, ◌-◌, ◌<◌, ◌∷◌, ◌≡◌, ◌≤◌, ◌∙◌, Bool, List, None, Some, append_assoc, ap, arith, false, filter_map, if◌then◌else◌, length, length-append, map, nat_lt, not, refl, slice_set, suc, sym, true, zero, ℕ}
use Rattle.std.proofs.lemmas.Bool.Decides.{nat_tests}
use Rattle.std.specs.List.{cons_option, enumerate_from}
use Rattle.definitions.proofs.Lists.{and-false as dead_now}
use Rattle.definitions.specs.Analyzers.{Analyzer}
use Rattle.definitions.specs.Postings.{Posting, posting_of, postings}
use Rattle.definitions.specs.Recorded.{count_of, holds, positions_of}
use Rattle.definitions.specs.Schema.{Schema}
use Rattle.definitions.specs.Values.{Document}
use Rattle.segment_definitions.proofs.Deletings.{cut_rows, lives as alive_still}
use Rattle.segment_definitions.specs.Rows.{cut_flags, flagged}
use Rattle.segment_definitions.specs.Waiting.{struck_from}
use Rattle.segment.specs.Killed.{before, killed}

-- a flag behind others
set_behind : (before flags : List Bool) (flag new : Bool) → slice_set (before ++ flag ∷ flags) (length before) new ≡ before ++ new ∷ flags
set_behind [] flags flag new = refl
set_behind (b ∷ before) flags flag new = ap (λ more. b ∷ more) (set_behind before flags flag new)

-- ---- flags that are cut

cut_nothing : (k : ℕ) (flags : List Bool) → cut_flags k [] flags ≡ flags
cut_nothing zero flags = refl
cut_nothing (suc k) flags = refl

cut_step : (end n : ℕ) (l flag : Bool) (left flags : List Bool) → n < end → cut_flags (end - n) (l ∷ left) (flag ∷ flags) ≡ (flag && l) ∷ cut_flags (end - (n + 1)) left flags
cut_step end n l flag left flags early = (let more : end - n ≡ suc (end - (n + 1)) = omega (arith, early) in ap (λ k. cut_flags k (l ∷ left) (flag ∷ flags)) more)

cut_stop : (end n : ℕ) (left flags : List Bool) → end ≤ n → cut_flags (end - n) left flags ≡ flags
cut_stop end n left flags late = (let none : end - n ≡ 0 = omega (arith, late) in ap (λ k. cut_flags k left flags) none)

module _ (schema : Schema) (analyze : Analyzer) (t : List ℕ) (end : ℕ) where
  -- the documents of the postings, numbered from one on
  abbrev listed : ℕ → List Document → List ℕ
  listed n docs = map (λ (x : Posting). x.doc) (filter_map (posting_of schema analyze t) (enumerate_from n docs))

  -- which documents don't hold the term
  abbrev spared : List Document → List Bool
  spared docs = map (λ doc. not (holds schema analyze t doc)) docs

  killed_from : (docs : List Document) (ahead flags : List Bool) (n : ℕ) → n ≡ length ahead → length flags ≡ length docs → killed (before end (listed n docs)) (ahead ++ flags) ≡ ahead ++ cut_flags (end - n) (spared docs) flags
  killed_from [] ahead flags n at long = ap (λ fs. ahead ++ fs) (sym (cut_nothing (end - n) flags))
  killed_from (doc ∷ docs) ahead [] n at long = absurd (omega (arith, long))
  killed_from (doc ∷ docs) ahead (flag ∷ flags) n at long = go (λ b. step b (killed_from docs (ahead ++ b ∷ []) flags (n + 1) (let last = length-append ahead (b ∷ []) in omega (arith, at, last)) (omega (arith, long)))) (holds schema analyze t doc) (nat_lt n end) refl
    where
      left : List Bool
      left = cut_flags (end - (n + 1)) (spared docs) flags

      more : List ℕ
      more = before end (listed (n + 1) docs)

      step : (b : Bool) → killed more ((ahead ++ b ∷ []) ++ flags) ≡ (ahead ++ b ∷ []) ++ left → killed more (ahead ++ b ∷ flags) ≡ ahead ++ b ∷ left
      step b further =
          ap (λ (l : List Bool). killed more l) (sym (append_assoc ahead (b ∷ []) flags))
          ∙ further
          ∙ append_assoc ahead (b ∷ []) left

      passed : (h : Bool) → nat_lt n end ≡ false → ahead ++ flag ∷ left ≡ ahead ++ cut_flags (end - n) (not h ∷ spared docs) (flag ∷ flags)
      passed h late =
          let over : end ≤ n = grind (arith, nat_tests) in
          ap (λ fs. ahead ++ flag ∷ fs) (cut_stop end (n + 1) (spared docs) flags (omega (arith, over)))
          ∙ ap (λ fs. ahead ++ fs) (sym (cut_stop end n (not h ∷ spared docs) (flag ∷ flags) over))

      go : ((b : Bool) → killed more (ahead ++ b ∷ flags) ≡ ahead ++ b ∷ left)
          → (h b : Bool) → nat_lt n end ≡ b → killed (before end (map (λ (x : Posting). x.doc) (cons_option (if h then Some (record { doc = n; count = count_of schema analyze t doc; positions = positions_of schema analyze t doc }) else None) (filter_map (posting_of schema analyze t) (enumerate_from (n + 1) docs))))) (ahead ++ flag ∷ flags) ≡ ahead ++ cut_flags (end - n) (not h ∷ spared docs) (flag ∷ flags)
      go next true true early =
          ap (λ (b : Bool). killed (if b then n ∷ more else more) (ahead ++ flag ∷ flags)) early
          ∙ ap (λ (l : List Bool). killed more l) (ap (λ i. slice_set (ahead ++ flag ∷ flags) i false) at ∙ set_behind ahead flags flag false)
          ∙ next false
          ∙ ap (λ b. ahead ++ b ∷ left) (sym (dead_now flag))
          ∙ ap (λ fs. ahead ++ fs) (sym (cut_step end n false flag (spared docs) flags (grind (arith, nat_tests))))
      go next false true early =
          next flag
          ∙ ap (λ b. ahead ++ b ∷ left) (sym (alive_still flag))
          ∙ ap (λ fs. ahead ++ fs) (sym (cut_step end n true flag (spared docs) flags (grind (arith, nat_tests))))
      go next true false late =
          ap (λ (b : Bool). killed (if b then n ∷ more else more) (ahead ++ flag ∷ flags)) late
          ∙ next flag
          ∙ passed true late
      go next false false late = next flag ∙ passed false late

  -- where the documents of a term's postings before an end die, the rows are those that a deletion leaves which was made
  -- before the document at the end
  pub killed_rows : (i : ℕ) (docs : List Document) (flags : List Bool) → length flags ≡ length docs → flagged docs (killed (before end (map (λ (x : Posting). x.doc) (postings schema analyze t docs))) flags) ≡ struck_from (holds schema analyze) ((t, i + end) ∷ []) i (flagged docs flags)
  killed_rows i docs flags long =
      let all : end - 0 ≡ end = omega arith in
      ap (flagged docs) (killed_from docs [] flags 0 refl long ∙ ap (λ k. cut_flags k (spared docs) flags) all)
      ∙ cut_rows (holds schema analyze) t end i docs flags
