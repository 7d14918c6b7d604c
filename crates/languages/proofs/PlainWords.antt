-- Plain words: what is left of a word, as the code meets its characters.
use Rattle.std.proofs.Common.{◌++◌, ◌+◌, ◌<◌, ◌∙◌, ◌≡◌, ◌≤◌, Bool, List, ap, drop, get_or, length, sym, ℕ}
use Rattle.std.proofs.lemmas.List.{append-nil, append_assoc, drop_all, drop_more}
use Rattle.languages.specs.Plain.{bare, loses_behind, without_accents}

-- one character more
pub one-more : (front cs : List ℕ) (loses : Bool) (i c : ℕ) → i < length cs → c ≡ get_or cs i c → (front ++ bare loses c) ++ without_accents (loses_behind loses c) (drop (i + 1) cs) ≡ front ++ without_accents loses (drop i cs)
unfolding without_accents
one-more front cs loses i c inside read =
    append_assoc front (bare loses c) (without_accents (loses_behind loses c) (drop (i + 1) cs))
    ∙ ap (λ x. front ++ (bare loses x ++ without_accents (loses_behind loses x) (drop (i + 1) cs))) read
    ∙ ap (λ rest. front ++ without_accents loses rest) (sym (drop_more cs i c inside))

-- and no more
pub no-more : (front cs : List ℕ) (loses : Bool) (i : ℕ) → length cs ≤ i → front ++ without_accents loses (drop i cs) ≡ front
unfolding without_accents
no-more front cs loses i past = ap (λ rest. front ++ without_accents loses rest) (drop_all i cs past) ∙ append-nil front
