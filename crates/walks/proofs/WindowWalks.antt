-- Walks by windows: what is left out, and what is fed.
use Rattle.std.proofs.Common.{[], List, ap, arith, drop, length, negsuc, pos, refl, subst, suc, sym, ◌<◌, ◌∙◌, ◌∷◌, ◌≡◌, ◌≤◌, ◌≤ℤ◌, ℕ, ℤ}
use Rattle.std.proofs.lemmas.Int.{ints}
use Rattle.definitions.specs.Postings.{terminated}
use Rattle.definitions.specs.Scoring.{natural}
use Rattle.definitions.specs.Sinks.{fed}
use Rattle.docsets.proofs.EntryLaws.{from-from}
use Rattle.docsets.specs.Bounds.{Covers}
use Rattle.docsets.specs.Entries.{Entry, Rising, first, first_score, from}
use Rattle.docsets.specs.EntryLaws.{Rising-from}
use Rattle.docsets.specs.ScoredEntries.{pairs_of}
use Rattle.walks.proofs.BlockWalks.{low_fed}
use Rattle.walks.proofs.EntryCuts.{fed_cut}

natural_below : (b t : ℤ) → pos 0 ≤ℤ b → b ≤ℤ t → pos (natural b) ≤ℤ t
natural_below (pos n) t positive low = low
natural_below (negsuc n) t positive low = absurd (omega (arith, ints, positive))

-- a window whose bound isn't above the threshold is left out
pub window_left_out : {S : Type 0} (limit : S → ℤ) (taken : S → ℕ × ℕ → S) (s : S) (t b : ℤ) (target until : ℕ) (es : List Entry) → t ≡ limit s → pos 0 ≤ℤ b → b ≤ℤ t → target ≤ until → Rising 0 es → Covers target until (natural b) es → fed limit taken s (pairs_of (from until es)) ≡ fed limit taken s (pairs_of (from target es))
window_left_out limit taken s t b target until es at positive low far rises covers =
    let bound : pos (natural b) ≤ℤ limit s = subst (λ u. pos (natural b) ≤ℤ u) at (natural_below b t positive low) in
    ap (λ xs. fed limit taken s (pairs_of xs)) (sym (from-from target until es far))
    ∙ (ap (λ u. fed limit taken u (pairs_of (from until (from target es)))) (sym (low_fed limit taken s (natural b) target until es bound covers))
    ∙ fed_cut limit taken s until 0 (from target es) (Rising-from target 0 es rises))

-- the first, and then what is left
pub first_fed : {S : Type 0} (limit : S → ℤ) (taken : S → ℕ × ℕ → S) (s : S) (es : List Entry) → first es < terminated → fed limit taken (fed limit taken s ((first es, first_score es) ∷ [])) (pairs_of (drop 1 es)) ≡ fed limit taken s (pairs_of es)
first_fed limit taken s [] some = absurd (omega (arith, some))
first_fed limit taken s (e ∷ es) some = refl

-- one less is left
pub one_passed : (es : List Entry) → first es < terminated → length es ≡ suc (length (drop 1 es))
one_passed [] some = absurd (omega (arith, some))
one_passed (e ∷ es) some = refl
