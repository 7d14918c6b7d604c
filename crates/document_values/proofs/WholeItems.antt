-- Items that stand whole one after another.
use Rattle.std.proofs.Common.{◌≡◌, ◌∙◌, ◌∷◌, [], List, None, Option, Some, ap, length, refl, suc, sym, zero, ℕ}
use Rattle.definitions.specs.Json.{◌>>=◌}
use Rattle.document_values.specs.Docs.{IsWhole}
use Rattle.layouts.specs.DocumentReading.{items_at, skip_many}

-- there are as many as is said
pub whole_length : {A : Type 0} (item : List ℕ → Option (A × List ℕ)) (n : ℕ) (bs : List ℕ) → IsWhole item n bs → n ≡ length (items_at item n bs)
whole_length item zero bs whole = refl
whole_length {A} item (suc n) bs whole = go (item bs) refl whole.1 (λ p e. whole_length item n p.1 (whole.0, e))
  where
    go : (o : Option (A × List ℕ)) → item bs ≡ o → (o >>= (λ p. skip_many item n p.1)) ≡ Some whole.0 → ((p : A × List ℕ) → skip_many item n p.1 ≡ Some whole.0 → n ≡ length (items_at item n p.1)) → suc n ≡ length (items_at item (suc n) bs)
    go None is e more = cc
    go (Some p) is e more = ap suc (more p e) ∙ ap (λ o. length {A = A} (elim o [ None ↦ [] | Some p ↦ p.0 ∷ items_at item n p.1 ])) (sym is)
