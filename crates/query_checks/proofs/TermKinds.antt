-- The kind that a term's code names, and the kind of a leaf in a JSON term.
use Rattle.std.proofs.Common.{[], Bool, List, Some, ap, arith, bytes_eq, cond, drop, false, not, refl, suc, true, ◌&&◌, ◌+◌, ◌==◌, ◌∙◌, ◌∷◌, ◌≡◌, ℕ}
use Rattle.std.specs.List.{after_first, position_or_len}
use Rattle.definitions.specs.Schema.{Kind}
use Rattle.definitions.specs.Terms.{has_kind, kind_in, type_code}
use Rattle.terms.proofs.TermParts.{code_of_kind}

-- a term has a kind where the codes are the same
pub has_kind_by_code : (t : List ℕ) (of other : Kind) (a b : ℕ) → kind_in t ≡ Some of → type_code of ≡ a ∷ [] → type_code other ≡ b ∷ [] → has_kind other t ≡ (a == b)
has_kind_by_code t of other a b named of_code other_code =
    ap (λ c. bytes_eq c (type_code other)) (code_of_kind t of named ∙ of_code) ∙ ap (bytes_eq (a ∷ [])) other_code ∙ alone (a == b)
  where
    alone : (same : Bool) → (same && true) ≡ same
    alone true = refl
    alone false = refl

-- ---- leaves

-- what stands behind the first element that passes
pub behind_first : {X : Type 0} (p : X → Bool) (x : X) (xs : List X) → p x ≡ true → after_first p (x ∷ xs) ≡ xs
behind_first p x xs passes = ap (λ b. drop (cond (not b) (1 + position_or_len p xs) 0 + 1) (x ∷ xs)) passes

pub behind_other : {X : Type 0} (p : X → Bool) (x : X) (xs : List X) → p x ≡ false → after_first p (x ∷ xs) ≡ after_first p xs
behind_other p x xs fails =
    let next : (1 + position_or_len p xs) + 1 ≡ suc (position_or_len p xs + 1) = omega arith in
    ap (λ b. drop (cond (not b) (1 + position_or_len p xs) 0 + 1) (x ∷ xs)) fails ∙ ap (λ n. drop n (x ∷ xs)) next
