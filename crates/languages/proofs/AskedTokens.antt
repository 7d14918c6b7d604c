-- What is kept of the tokens of a text.
use Rattle.std.proofs.Common.{[], ◌++◌, ◌∙◌, ◌∷◌, ◌≡◌, ◌||◌, List, None, Option, Some, ap, append-nil, append_assoc, false, refl, sym, true}
use Rattle.std.proofs.lemmas.Bool.{cond-false, cond-true}
use Rattle.definitions.specs.Values.{Token}
use Rattle.languages.specs.Asked.{asked, asked_behind, is_first, is_second}

-- none are left
pub kept-end : (before : Option Token) (front : List Token) → front ++ asked_behind before [] ≡ front
unfolding asked_behind
kept-end before front = append-nil front

-- a token that is kept
pub kept-one : (before : Option Token) (front : List Token) (t : Token) (ts : List Token) → (is_second before t || is_first t ts) ≡ false → (front ++ t ∷ []) ++ asked_behind (Some t) ts ≡ front ++ asked_behind before (t ∷ ts)
unfolding asked_behind
kept-one before front t ts e =
    append_assoc front (t ∷ []) (asked_behind (Some t) ts)
    ∙ ap (λ rest. front ++ rest) (sym (cond-false (is_second before t || is_first t ts) (asked_behind (Some t) ts) (t ∷ asked_behind (Some t) ts) e))

-- a token of a pair beside it
pub kept-none : (before : Option Token) (front : List Token) (t : Token) (ts : List Token) → (is_second before t || is_first t ts) ≡ true → front ++ asked_behind (Some t) ts ≡ front ++ asked_behind before (t ∷ ts)
unfolding asked_behind
kept-none before front t ts e = ap (λ rest. front ++ rest) (sym (cond-true (is_second before t || is_first t ts) (asked_behind (Some t) ts) (t ∷ asked_behind (Some t) ts) e))
