-- The documents of entries.
use Rattle.std.proofs.Common.{[], ◌∙◌, ◌∷◌, ◌≡◌, List, ap, false, filter, if◌then◌else◌, nat_le, refl, sym, true, ℕ}
use Rattle.docsets.specs.Entries.{Entry, from}
use Rattle.scorers.specs.Documents.{documents}

documents-from : (t : ℕ) (es : List Entry) → documents (from t es) ≡ filter (nat_le t) (documents es)
documents-from t [] = refl
documents-from t (e ∷ es) =
    let ih = documents-from t es in
    elim (nat_le t e.doc) as (λ b. documents (if b then e ∷ from t es else from t es) ≡ (if b then e.doc ∷ filter (nat_le t) (documents es) else filter (nat_le t) (documents es))) [
      | true ↦ ap (λ ds. e.doc ∷ ds) ih
      | false ↦ ih
    ]

pub same-from : (t : ℕ) (es fs gs hs : List Entry) → documents es ≡ documents fs → gs ≡ from t es → hs ≡ from t fs → documents gs ≡ documents hs
same-from t es fs gs hs same left right = ap documents left ∙ (documents-from t es ∙ (ap (filter (nat_le t)) same ∙ (sym (documents-from t fs) ∙ ap documents (sym right))))
