-- Documents with scores as lists of numbers have them.
use Rattle.std.proofs.Common.{[], Err, IfErr, List, Ok, Result, ap, pos, refl, ◌∷◌, ◌≡◌}
use Rattle.scorers.specs.Signed.{signed}
use Rattle.docsets.specs.Entries.{Entry}
use Rattle.docsets.specs.ScoredEntries.{pairs_of}
use Rattle.scorer_answers.specs.Listed.{signed_pairs}

pub signed_entries : (es : List Entry) → signed es ≡ signed_pairs (pairs_of es)
signed_entries [] = refl
signed_entries (e ∷ es) = ap (λ ps. (e.doc, pos e.score) ∷ ps) (signed_entries es)

-- what holds anyway holds of whatever fault
pub whatever_fault : {X E : Type 0} {P : Type 0} (A : E → Type 0) (result : Result X E) → P → IfErr result (λ fault. A fault → P)
whatever_fault A (Ok x) p = tt
whatever_fault A (Err e) p = λ a. p
