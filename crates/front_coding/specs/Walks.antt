-- Terms that are put together of their parts.
use Rattle.std.specs.Prelude.{[], ◌++◌, ◌+◌, ◌∷◌, Bool, List, None, Some, length, nat_le, suc, take, zero, ℕ}
use Rattle.std.specs.List.{list_all}
use Rattle.layouts.specs.TermSections.{Told}
use Rattle.front_coding.specs.LookUps.{take_parts}

-- a number of terms from one on, behind a key, put together of their parts; none from where no parts stand
abbrev pub terms_taken : ℕ → ℕ → ℕ → List ℕ → List ℕ → List Told
terms_taken size zero number before bs = []
terms_taken size (suc left) number before bs = elim (take_parts size number bs) [ None ↦ [] | Some p ↦ let key = take p.0.shared_len before ++ p.0.left in (key, p.0.lengths) ∷ terms_taken size left (number + 1) key p.1 ]

-- whether no key has more bytes
abbrev pub keys_fit : ℕ → List Told → Bool
keys_fit longest terms = list_all (λ t. nat_le (length t.0) longest) terms
