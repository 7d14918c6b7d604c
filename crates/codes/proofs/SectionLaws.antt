-- No bytes are two sections of lengths.
use Rattle.std.proofs.Common.{[], List, Some, ap₂, map, refl, sym, ◌∙◌, ◌∷◌, ◌≡◌, ℕ}
use Rattle.layouts.specs.FieldNorms.{IsNorms}
use Rattle.codes.proofs.VintListLaws.{Small}
use Rattle.codes.proofs.FieldNormSections.{section_is_taken}

-- pairs with equal parts are equal
same_pairs : (a b : List (ℕ × List ℕ)) → map (λ p. p.0) a ≡ map (λ p. p.0) b → map (λ p. p.1) a ≡ map (λ p. p.1) b → a ≡ b
same_pairs [] [] firsts seconds = refl
same_pairs [] (q ∷ b) firsts seconds = cc
same_pairs (p ∷ a) [] firsts seconds = cc
same_pairs (p ∷ a) (q ∷ b) firsts seconds =
    let first : p.0 ≡ q.0 = cc in
    let second : p.1 ≡ q.1 = cc in
    let later_firsts : map (λ r. r.0) a ≡ map (λ r. r.0) b = cc in
    let later_seconds : map (λ r. r.1) a ≡ map (λ r. r.1) b = cc in
    let both : p ≡ q = ap₂ (λ f ids. (f, ids)) first second in
    ap₂ (λ r rs. r ∷ rs) both (same_pairs a b later_firsts later_seconds)

pub one_section : (fields bytes : List ℕ) (n : ℕ) (a b : List (ℕ × List ℕ)) → Small fields → IsNorms fields n bytes a → IsNorms fields n bytes b → a ≡ b
one_section fields bytes n a b small is_a is_b =
    let both : Some (map (λ p. p.1) a) ≡ Some (map (λ p. p.1) b) = sym (section_is_taken n fields bytes a is_a small) ∙ section_is_taken n fields bytes b is_b small in
    let seconds : map (λ p. p.1) a ≡ map (λ p. p.1) b = cc in
    same_pairs a b (is_a.names ∙ sym is_b.names) seconds
