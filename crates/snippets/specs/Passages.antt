-- Passages: pieces beside each other that are short, and how many of the words that are looked for they show.
use Rattle.std.specs.Prelude.{[], ◌+◌, ◌-◌, ◌==◌, ◌∷◌, Bool, List, None, Option, Some, false, if◌then◌else◌, length, max, nat_le, suc, take, zero, ℕ}
use Rattle.std.specs.List.{list_any}

-- a piece, the word with which it begins, and the number of the first word looked for that it has, where it has one
pub record Piece : Type 0 where
  pub text : List ℕ
  pub word : List ℕ
  pub found : Option ℕ

-- how long a passage may be, in bytes
abbrev pub max_passage_len : ℕ
max_passage_len = 200

-- how long pieces are together
abbrev pub size : List Piece → ℕ
size [] = 0
size (p ∷ ps) = length p.text + size ps

-- whether it is the word of that number
abbrev pub is_number : ℕ → Option ℕ → Bool
is_number k None = false
is_number k (Some j) = j == k

-- whether pieces have the word of a number
abbrev pub has : ℕ → List Piece → Bool
has k ps = list_any (λ p. is_number k p.found) ps

-- how many of the first words pieces have
abbrev pub shown : ℕ → List Piece → ℕ
shown zero ps = 0
shown (suc k) ps = if has k ps then suc (shown k ps) else shown k ps

-- how many pieces from the first on have room together
abbrev pub reach : ℕ → List Piece → ℕ
reach room [] = 0
reach room (p ∷ ps) = if nat_le (length p.text) room then suc (reach (room - length p.text) ps) else 0

-- the longest passage that begins with the first piece
abbrev pub window : List Piece → List Piece
window ps = take (reach max_passage_len ps) ps

-- the most words that such a passage shows, wherever it begins
abbrev pub most : ℕ → List Piece → ℕ
most words [] = 0
most words (p ∷ ps) = max (shown words (window (p ∷ ps))) (most words ps)
