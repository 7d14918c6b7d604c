-- Lists with the same documents and scores.
use Rattle.std.proofs.Common.{[], List, ap, refl, sym, ◌∙◌, ◌∷◌, ◌==◌, ◌≡◌, if◌then◌else◌, true, false, ℕ}
use Rattle.any_scorer.specs.Clauses.{scores_of}
use Rattle.docsets.specs.Entries.{Entry}
use Rattle.docsets.specs.ScoredEntries.{pairs_of}
use Rattle.docsets.specs.Members.{entries_of, scores_in}

-- the scores of a document in a list of pairs
abbrev pub scores_paired : ℕ → List (ℕ × ℕ) → List ℕ
scores_paired d [] = []
scores_paired d (p ∷ ps) = if d == p.0 then p.1 ∷ scores_paired d ps else scores_paired d ps

pub paired : (d : ℕ) (es : List Entry) → scores_of d es ≡ scores_paired d (pairs_of es)
paired d [] = refl
paired d (e ∷ es) = elim (d == e.doc) as (λ b. scores_in (if b then e ∷ entries_of d es else entries_of d es) ≡ (if b then e.score ∷ scores_paired d (pairs_of es) else scores_paired d (pairs_of es))) [
  | true ↦ ap (λ xs. e.score ∷ xs) (paired d es)
  | false ↦ paired d es
]

-- they have the same scores of a document
pub same_scores : (d : ℕ) (es fs : List Entry) → pairs_of es ≡ pairs_of fs → scores_of d es ≡ scores_of d fs
same_scores d es fs same = paired d es ∙ (ap (scores_paired d) same ∙ sym (paired d fs))
