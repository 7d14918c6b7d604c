-- The words of a text.
use Rattle.std.specs.Prelude.{[], ◌&&◌, ◌++◌, ◌||◌, ◌∷◌, Bool, List, if◌then◌else◌, not, ℕ}
use Rattle.std.specs.List.{slice_split}
use Rattle.languages.specs.declared.writing.Writing.{Writing}
use Rattle.languages.specs.Characters.{is_mark, is_spaced, is_word_char, writing}

-- the longest runs of characters of words, and nothing between separators in a row
abbrev pub runs : List ℕ → List (List ℕ)
runs cs = slice_split (λ c. not (is_word_char c)) cs

-- the characters of a word, with the writing of the first
abbrev pub Word : Type 0
Word = Writing × List ℕ

-- whether a word goes on at a character: at a mark it does, and at a letter or digit where neither stands side by side with others
abbrev pub goes_on : Writing → ℕ → Bool
goes_on w c = is_mark c || (is_spaced w && is_spaced (writing c))

-- the words of a run, of whose first one the characters in front have been read
unfoldable pub words_from : Writing → List ℕ → List ℕ → List Word
words_from w front [] = (w, front) ∷ []
words_from w front (c ∷ cs) =
    let longer = words_from w (front ++ c ∷ []) cs in
    let next = (w, front) ∷ words_from (writing c) (c ∷ []) cs in
    if goes_on w c then longer else next

-- the words of a run
unfoldable pub run_words : List ℕ → List Word
run_words [] = []
run_words (c ∷ cs) = words_from (writing c) (c ∷ []) cs
