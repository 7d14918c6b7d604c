-- A text cut at its words: each piece is a word, or none, with the one byte behind it that is no part of a word.
use Rattle.std.specs.Prelude.{[], ◌++◌, ◌∷◌, List, if◌then◌else◌, not, position, take, ℕ}
use Rattle.std.specs.Option.{option_map_or}
use Rattle.definitions.specs.Analyzers.{is_word_byte}

-- the piece that a byte ends, behind a run of bytes of a word
abbrev pub ended : List ℕ → ℕ → List (List ℕ)
ended run b = if is_word_byte b then [] else (run ++ b ∷ []) ∷ []

-- the run behind that byte
abbrev pub going : List ℕ → ℕ → List ℕ
going run b = if is_word_byte b then run ++ b ∷ [] else []

-- the piece that the text's end ends
abbrev pub last : List ℕ → List (List ℕ)
last [] = []
last run = run ∷ []

-- the pieces of what follows a run
abbrev pub cut_from : List ℕ → List ℕ → List (List ℕ)
cut_from run [] = last run
cut_from run (b ∷ bs) = ended run b ++ cut_from (going run b) bs

-- the pieces of a text
abbrev pub cut : List ℕ → List (List ℕ)
cut s = cut_from [] s

-- the word with which a piece begins: what stands before the first byte that is no part of it
abbrev pub word_of : List ℕ → List ℕ
word_of piece = option_map_or (λ end. take end piece) (position (λ b. not (is_word_byte b)) piece) piece
