-- Entries that are passed because their scores are low.
use Rattle.std.proofs.Common.{[], ◌<◌, ◌∙◌, ◌∷◌, ◌≡◌, Bool, List, ap, arith, if◌then◌else◌, le-leb, refl, subst, sym, ℕ}
use Rattle.std.specs.Prelude.{pos, ◌≤ℤ◌, ℤ}
use Rattle.std.specs.List.{AllByRecursion}
use Rattle.std.proofs.lemmas.Bool.{lt-leb}
use Rattle.definitions.proofs.Lists.{by_order}
use Rattle.definitions.specs.Sinks.{fed}
use Rattle.docsets.specs.Bounds.{PassesLow}
use Rattle.docsets.specs.Entries.{Entry, Rising, first, from}
use Rattle.docsets.specs.ScoredEntries.{pairs_of}
use Rattle.walks.proofs.BlockWalks.{not_above}
use Rattle.walks.proofs.EntryCuts.{fed_cut}
use Rattle.walks.specs.BlocksLeft.{up_to}

passed_unfed : {S : Type 0} (limit : S → ℤ) (taken : S → ℕ × ℕ → S) (s : S) (until : ℕ) (es : List Entry) → AllByRecursion (λ e. e.doc < until → pos e.score ≤ℤ limit s) es → fed limit taken s (pairs_of (up_to until es)) ≡ s
passed_unfed limit taken s until [] low = refl
passed_unfed {S} limit taken s until (e ∷ es) low =
    let ih = passed_unfed limit taken s until es low.1 in
    by_order until e.doc (fed limit taken s (pairs_of (up_to until (e ∷ es))) ≡ s)
    (λ out. ap (λ b. fed limit taken s (pairs_of (if b then up_to until es else e ∷ up_to until es))) (le-leb until e.doc out) ∙ ih)
    (λ early. ap (λ b. fed limit taken s (pairs_of (if b then up_to until es else e ∷ up_to until es))) (lt-leb until e.doc early)
    ∙ (ap (λ (b : Bool). fed limit taken (if b then taken s (e.doc, e.score) else s) (pairs_of (up_to until es))) (not_above (limit s) e.score e.score (low.0 early) (omega arith)) ∙ ih))

-- it comes to the same without them
pub passed_low : {S : Type 0} (limit : S → ℤ) (taken : S → ℕ × ℕ → S) (s : S) (t : ℤ) (before after : List Entry) → t ≡ limit s → Rising 0 before → PassesLow t before after → fed limit taken s (pairs_of after) ≡ fed limit taken s (pairs_of before)
passed_low limit taken s t before after at rises passes =
    let low = subst (λ u. AllByRecursion (λ e. e.doc < first after → pos e.score ≤ℤ u) before) at passes.low in
    ap (λ xs. fed limit taken s (pairs_of xs)) passes.rest
    ∙ (ap (λ u. fed limit taken u (pairs_of (from (first after) before))) (sym (passed_unfed limit taken s (first after) before low))
    ∙ fed_cut limit taken s (first after) 0 before rises)
