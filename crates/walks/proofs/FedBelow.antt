-- What is fed of a cursor whose documents are all below a number.
use Rattle.std.proofs.Common.{[], List, ap, arith, length, sym, ◌+◌, ◌-◌, ◌<◌, ◌∙◌, ◌∷◌, ◌≡◌, ◌≤◌, ℕ}
use Rattle.std.specs.Prelude.{ℤ}
use Rattle.std.specs.List.{AllByRecursion}
use Rattle.definitions.proofs.Lists.{by_order}
use Rattle.definitions.specs.ScoredLists.{AreScoredFrom}
use Rattle.definitions.specs.Sinks as sinks
use Rattle.docsets.proofs.EntryLaws.{from-in, from-out}
use Rattle.docsets.specs.Entries.{Entry, Rising, from}
use Rattle.docsets.specs.ScoredEntries.{pairs_of}
use Rattle.walks.specs.Feeding.{IsFedBelow}

-- no more documents than there are numbers for them
pub few_within : (low n : ℕ) (es : List Entry) → Rising low es → from n es ≡ [] → length es ≤ n - low
few_within low n [] r none = omega arith
few_within low n (e ∷ es) r none =
    by_order n e.doc (length (e ∷ es) ≤ n - low)
    (λ i. (let is = ap length (sym (from-in n e es i) ∙ none) in absurd (omega (arith, is))))
    (λ o. (let ih = few_within (e.doc + 1) n es r.3 (sym (from-out n e es o) ∙ none) in let below = r.0 in omega (arith, ih, o, below)))

pairs_ascend : (low : ℕ) (es : List Entry) → Rising low es → AreScoredFrom low (pairs_of es)
pairs_ascend low [] r = tt
pairs_ascend low (e ∷ es) r = (r.0, r.1, r.2, pairs_ascend (e.doc + 1) es r.3)

pairs_below : (n : ℕ) (es : List Entry) → from n es ≡ [] → AllByRecursion (λ p. p.0 < n) (pairs_of es)
pairs_below n [] none = tt
pairs_below n (e ∷ es) none =
    by_order n e.doc (AllByRecursion (λ p. p.0 < n) (pairs_of (e ∷ es)))
    (λ i. (let is = ap length (sym (from-in n e es i) ∙ none) in absurd (omega (arith, is))))
    (λ o. (o, pairs_below n es (sym (from-out n e es o) ∙ none)))

pub fed_below : {S : Type 0} (limit : S → ℤ) (taken : S → ℕ × ℕ → S) (before after : S) (n : ℕ) (es : List Entry) → Rising 0 es → from n es ≡ [] → after ≡ sinks.fed limit taken before (pairs_of es) → IsFedBelow limit taken before n after
fed_below limit taken before after n es r none is = record { pairs = pairs_of es; ascend = pairs_ascend 0 es r; below = pairs_below n es none; fed = is }
