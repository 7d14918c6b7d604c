-- A list of documents with scores, cut before a document.
use Rattle.std.proofs.Common.{[], List, arith, drop, get_or, length, refl, subst, suc, sym, take, zero, ◌+◌, ◌<◌, ◌≡◌, ◌≤◌, ◌∙◌, ◌∷◌, ℕ, ℤ}
use Rattle.std.proofs.lemmas.List.{get_or-take}
use Rattle.std.specs.List.Sorted.{IsNonDecreasingBy}
use Rattle.docsets.specs.Entries.{from}
use Rattle.docsets.proofs.EntryLaws.{from-first, from-out}
use Rattle.definitions.specs.Scoring.{natural}
use Rattle.docsets.specs.ScoredEntries.{AreScores, naturals, scored}
use Rattle.docsets.specs.ScoredEntryLaws.{Rising-scores}
use Rattle.definitions.proofs.Lists.{by_order}

-- no document is below the least
least-there : (low : ℕ) (ps : List (ℕ × ℤ)) (j : ℕ) (d : ℕ × ℤ) → AreScores low ps → j < length ps → low ≤ (get_or ps j d).0
least-there low [] j d r l = absurd (omega (arith, l))
least-there low (p ∷ ps) zero d r l = r.0
least-there low (p ∷ ps) (suc j) d r l = (let later = least-there (p.0 + 1) ps j d r.4 (omega (arith, l)) in omega (arith, later, r.0))

-- they don't fall
pub rise : (low : ℕ) (ps : List (ℕ × ℤ)) → AreScores low ps → IsNonDecreasingBy (λ (p : ℕ × ℤ). p.0) ps
rise low [] r i j d order l = absurd (omega (arith, l))
rise low (p ∷ ps) r zero zero d order l = omega arith
rise low (p ∷ ps) r zero (suc j) d order l = (let later = least-there (p.0 + 1) ps j d r.4 (omega (arith, l)) in omega (arith, later))
rise low (p ∷ ps) r (suc i) zero d order l = absurd (omega (arith, order))
rise low (p ∷ ps) r (suc i) (suc j) d order l = rise (p.0 + 1) ps r.4 i j d (omega (arith, order)) (omega (arith, l))

-- where those before an index are before a target, and the one there isn't, the rest is what comes from the target on
pub cut : (t low i : ℕ) (ps : List (ℕ × ℤ)) → AreScores low ps → i ≤ length ps → ((k : ℕ) (d : ℕ × ℤ) → k < i → (get_or ps k d).0 < t) → ((d : ℕ × ℤ) → i < length ps → t ≤ (get_or ps i d).0) → scored (naturals (drop i ps)) ≡ from t (scored (naturals ps))
cut t low zero [] r bound before at = refl
cut t low zero (p ∷ ps) r bound before at = sym (from-first t low (scored (naturals (p ∷ ps))) (at p (omega arith)) (Rising-scores low (p ∷ ps) r))
cut t low (suc i) [] r bound before at = absurd (omega (arith, bound))
cut t low (suc i) (p ∷ ps) r bound before at =
    cut t (p.0 + 1) i ps r.4 (omega (arith, bound)) (λ k d l. before (suc k) d (omega (arith, l))) (λ d l. at d (omega (arith, l)))
    ∙ sym (from-out t (record { doc = p.0; score = natural p.1; count = 0; positions = [] }) (scored (naturals ps)) (before 0 p (omega arith)))

-- the index found in a first part isn't before a target, where the end of that part isn't either
pub not_before : (t n i : ℕ) (ps : List (ℕ × ℤ)) (d : ℕ × ℤ) → i ≤ n → (i < n → t ≤ (get_or (take n ps) i d).0) → (n < length ps → t ≤ (get_or ps n d).0) → i < length ps → t ≤ (get_or ps i d).0
not_before t n i ps d bound within end l = by_order n i (t ≤ (get_or ps i d).0)
    (λ past. (let same : n ≡ i = omega (arith, past, bound) in subst (λ k. k < length ps → t ≤ (get_or ps k d).0) same end l))
    (λ inside. subst (λ (p : ℕ × ℤ). t ≤ p.0) (get_or-take n ps i d inside) (within inside))
