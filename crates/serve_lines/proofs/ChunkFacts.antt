-- What a search for the newline says of the bytes that a reader shows.
use Rattle.std.proofs.Common.{◌≡◌, ◌≢◌, ℕ, ◌+◌, ◌<◌, ◌≤◌, List, [], ◌∷◌, ◌++◌, length, take, sym, ap, subst, ◌∙◌, arith, eq-eqb, eqb-true, get_or-take, length-take-le, take_all, le_refl}
use Rattle.std.proofs.lemmas.List.{take_more}
use Rattle.std.proofs.lemmas.List.Elements.{All-from_get_or}
use Rattle.memchr.specs.Find.{Nowhere, Passes, is_byte}
use Rattle.serve_lines.specs.Reading.{HasNoNewline}

-- no newline stands before the place where the search found one
pub HasNoNewline-before : (shown : List ℕ) (n : ℕ) → n ≤ length shown → Nowhere (Passes (is_byte 10) shown) 0 n → HasNoNewline (take n shown)
HasNoNewline-before shown n within none =
    All-from_get_or (λ x. x ≢ 10) (take n shown) 0 (λ i below.
    let short : i < n = omega (arith, length-take-le n shown within) in
    λ is. none i (omega arith) short (eq-eqb _ _ (sym (get_or-take n shown i 0 short) ∙ is)))

-- where it found none there is none
pub HasNoNewline-all : (shown : List ℕ) → Nowhere (Passes (is_byte 10) shown) 0 (length shown) → HasNoNewline shown
HasNoNewline-all shown none =
    subst HasNoNewline (take_all (length shown) shown (le_refl _)) (HasNoNewline-before shown (length shown) (le_refl _) none)

-- the bytes through the newline are those before it, and the newline
pub take-newline : (shown : List ℕ) (n : ℕ) → n < length shown → Passes (is_byte 10) shown n → take (n + 1) shown ≡ take n shown ++ 10 ∷ []
take-newline shown n below is = take_more shown n 0 below ∙ ap (λ x. take n shown ++ x ∷ []) (eqb-true _ _ is)
