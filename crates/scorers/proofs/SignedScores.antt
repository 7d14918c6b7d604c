-- Documents with scores as a scorer gives them.
use Rattle.std.proofs.Common.{[], List, ap, arith, refl, ◌+◌, ◌∷◌, ◌≡◌, ◌≤◌, ℕ}
use Rattle.std.proofs.Math.Facts.{yes_leb}
use Rattle.scorers.specs.Signed.{signed}
use Rattle.docsets.specs.Entries.{Entry, Rising}
use Rattle.docsets.specs.ScoredEntries.{AreScores, naturals, pairs_of}

-- scores of what rises are from 0 to the greatest
pub scores_rise : (low : ℕ) (es : List Entry) → Rising low es → AreScores low (signed es)
scores_rise low [] r = tt
scores_rise low (e ∷ es) r = (r.0, r.1, record { le = yes_leb (let l : 0 ≤ e.score = omega arith in l) }, record { le = yes_leb r.2 }, scores_rise (e.doc + 1) es r.3)

-- signed scores are those that aren't
pub naturals_of : (es : List Entry) → naturals (signed es) ≡ pairs_of es
naturals_of [] = refl
naturals_of (e ∷ es) = ap (λ ps. (e.doc, e.score) ∷ ps) (naturals_of es)
