-- The tokens of the words of a text.
use Rattle.std.specs.Prelude.{[], ◌++◌, ◌+◌, ◌||◌, ◌∷◌, ◌≡◌, Bool, List, bytes_eq, chars, codes, encode_utf8_all, if◌then◌else◌, length, nat_le, ℕ}
use Rattle.definitions.specs.Analyzers.{Analyzer, is_raw_or_default, max_run_len, raw_and_default}
use Rattle.definitions.specs.Values.{Token}
use Rattle.languages.specs.declared.word_form.WordForm.{WordForm}
use Rattle.languages.specs.declared.word_form.WordForm.TheVariants.{English, Folded, Plain}
use Rattle.languages.specs.Characters.{are_neighbours}
use Rattle.languages.specs.Folding.{folded}
use Rattle.languages.specs.Forms.{formed}
use Rattle.languages.specs.Words.{Word, run_words, runs}

-- the token of characters, and none where they take more than 40 bytes
abbrev pub word_token : ℕ → ℕ → List ℕ → List Token
word_token position len cs =
    let text = encode_utf8_all cs in
    if nat_le (length text) max_run_len then record { position = position; position_length = len; text = text } ∷ [] else []

-- the token of a word together with the next one, where the two are neighbours
abbrev pub pair_token : WordForm → ℕ → Word → List Word → List Token
pair_token form position word [] = []
pair_token form position word (next ∷ _) = if are_neighbours word.0 next.0 then word_token position 2 (formed form (word.1 ++ next.1)) else []

-- the tokens of the words of a run, numbered from a position: of each word, and of it with the next one
unfoldable pub run_tokens : WordForm → ℕ → List Word → List Token
run_tokens form position [] = []
run_tokens form position (word ∷ words) = word_token position 1 (formed form word.1) ++ pair_token form position word words ++ run_tokens form (position + 1) words

-- the tokens of runs, whose words are numbered from a position
unfoldable pub runs_tokens : WordForm → ℕ → List (List ℕ) → List Token
runs_tokens form position [] = []
runs_tokens form position (run ∷ rest) = run_tokens form position (run_words run) ++ runs_tokens form (position + length (run_words run)) rest

-- the tokens of a text without case, each word in its form
abbrev pub text_tokens : WordForm → List ℕ → List Token
text_tokens form s = runs_tokens form 0 (runs (folded (chars s)))

-- words without case
abbrev pub words18 : List ℕ → List Token
words18 s = text_tokens Folded s

-- words without case and accents
abbrev pub plain18 : List ℕ → List Token
plain18 s = text_tokens Plain s

-- the English stems of words without case and accents
abbrev pub english18 : List ℕ → List Token
english18 s = text_tokens English s

-- whether it is a name that the analyzer below knows
abbrev pub is_language : List ℕ → Bool
is_language name = bytes_eq name (codes "words18") || bytes_eq name (codes "plain18") || bytes_eq name (codes "english18") || is_raw_or_default name

-- the analyzer of these names
abbrev pub languages : Analyzer
languages name s =
    if bytes_eq name (codes "words18") then words18 s
    else if bytes_eq name (codes "plain18") then plain18 s
    else if bytes_eq name (codes "english18") then english18 s
    else raw_and_default name s

-- the text is one word by `words18`, and nothing else
abbrev pub IsOneWord : List ℕ → Type 0
IsOneWord s = words18 s ≡ record { position = 0; position_length = 1; text = encode_utf8_all (folded (chars s)) } ∷ []
