-- The pieces of a text, joined, are the text, and their words are its words.
use Rattle.std.proofs.Common.{[], ◌++◌, ◌+◌, ◌∙◌, ◌∷◌, ◌≡◌, Bool, IsTrue, List, None, Some, ap, append-nil, append_assoc, bytes_eq, cond, false, filter, filter_map, if◌then◌else◌, length, map, nat_le, not, refl, sym, true, ℕ}
use Rattle.std.specs.Char.{to_ascii_lowercase}
use Rattle.std.specs.List.{AllByRecursion, concat, cons_option, enumerate_from, flat_map, onto_first, slice_split}
use Rattle.definitions.specs.Analyzers.{default_tokens, is_word_byte, max_run_len, one_token, run_token}
use Rattle.definitions.specs.Values.{Token}
use Rattle.definitions.proofs.Lists.{all_push}
use Rattle.definitions.proofs.Runs.{onto_front, onto_front_part, split_past}
use Rattle.snippets.specs.Cutting.{cut, cut_from, last}

-- ---- the text

-- the last piece is what is left
last_joined : (run : List ℕ) → concat (last run) ≡ run ++ []
last_joined [] = refl
last_joined (b ∷ bs) = refl

-- the pieces behind a byte
joined_more : (word : Bool) (run bs : List ℕ) (b : ℕ) → concat (cut_from (run ++ b ∷ []) bs) ≡ (run ++ b ∷ []) ++ bs → concat (cut_from [] bs) ≡ bs → concat ((if word then [] else (run ++ b ∷ []) ∷ []) ++ cut_from (if word then run ++ b ∷ [] else []) bs) ≡ run ++ b ∷ bs
joined_more true run bs b more anew = more ∙ append_assoc run (b ∷ []) bs
joined_more false run bs b more anew = ap (λ rest. (run ++ b ∷ []) ++ rest) anew ∙ append_assoc run (b ∷ []) bs

-- the pieces of what follows a run are the run and that
joined_from : (run s : List ℕ) → concat (cut_from run s) ≡ run ++ s
joined_from run [] = last_joined run
joined_from run (b ∷ bs) = joined_more (is_word_byte b) run bs b (joined_from (run ++ b ∷ []) bs) (joined_from [] bs)

-- the pieces of a text are the text
pub joined : (s : List ℕ) → concat (cut s) ≡ s
joined s = joined_from [] s

-- ---- its words

-- the word that a part of a text is, if it isn't empty and not too long
abbrev word_of : List ℕ → List (List ℕ)
word_of [] = []
word_of run = if nat_le (length run) max_run_len then map to_ascii_lowercase run ∷ [] else []

-- the words of a text
abbrev words : List ℕ → List (List ℕ)
words s = flat_map word_of (slice_split (λ b. not (is_word_byte b)) s)

-- the text of a token, where there is one
one_text : (short : Bool) (position : ℕ) (run : List ℕ) (ts : List Token) → map (λ t. t.text) (cons_option (if short then Some (one_token position run) else None) ts) ≡ (if short then run ∷ [] else []) ++ map (λ t. t.text) ts
one_text true position run ts = refl
one_text false position run ts = refl

-- the texts of the tokens of parts are their words
texts_from : (position : ℕ) (parts : List (List ℕ)) → map (λ t. t.text) (filter_map run_token (enumerate_from position (filter (λ run. not (bytes_eq run [])) parts))) ≡ flat_map word_of parts
texts_from position [] = refl
texts_from position ([] ∷ parts) = texts_from position parts
texts_from position ((b ∷ bs) ∷ parts) =
    one_text (nat_le (length (b ∷ bs)) max_run_len) position (map to_ascii_lowercase (b ∷ bs)) (filter_map run_token (enumerate_from (position + 1) (filter (λ run. not (bytes_eq run [])) parts)))
    ∙ ap (λ rest. word_of (b ∷ bs) ++ rest) (texts_from (position + 1) parts)

-- the texts of the tokens of a text are its words
texts_are : (s : List ℕ) → map (λ t. t.text) (default_tokens s) ≡ words s
texts_are s = texts_from 0 (slice_split (λ b. not (is_word_byte b)) s)

-- a byte that fails separates
separated : (word : Bool) (b : ℕ) (parts : List (List ℕ)) → word ≡ false → cond (not word) ([] ∷ parts) (onto_first b parts) ≡ [] ∷ parts
separated false b parts e = refl
separated true b parts e = cc

-- the words of a run and of what stands behind a byte that ends it
words_split : (run bs : List ℕ) (b : ℕ) → AllByRecursion (λ c. IsTrue (is_word_byte c)) run → is_word_byte b ≡ false → words (run ++ b ∷ bs) ≡ word_of (run ++ []) ++ words bs
words_split run bs b all other =
    ap (flat_map word_of) (split_past is_word_byte run (b ∷ bs) all ∙ ap (onto_front run) (separated (is_word_byte b) b (slice_split (λ c. not (is_word_byte c)) bs) other) ∙ onto_front_part run [] (slice_split (λ c. not (is_word_byte c)) bs))

-- those of a piece that the byte ends, and of what stands behind it
words_ended : (run bs : List ℕ) (b : ℕ) → AllByRecursion (λ c. IsTrue (is_word_byte c)) run → is_word_byte b ≡ false → words (run ++ b ∷ []) ++ words bs ≡ words (run ++ b ∷ bs)
words_ended run bs b all other = ap (λ first. first ++ words bs) (words_split run [] b all other ∙ append-nil (word_of (run ++ []))) ∙ sym (words_split run bs b all other)

-- the words of the last piece
words_last : (run : List ℕ) → flat_map words (last run) ≡ words (run ++ [])
words_last [] = refl
words_last (b ∷ bs) = append-nil (words (b ∷ bs)) ∙ ap words (sym (append-nil (b ∷ bs)))

-- the words of the pieces behind a byte
words_more : (word : Bool) (run bs : List ℕ) (b : ℕ) → is_word_byte b ≡ word → AllByRecursion (λ c. IsTrue (is_word_byte c)) run → (word ≡ true → flat_map words (cut_from (run ++ b ∷ []) bs) ≡ words ((run ++ b ∷ []) ++ bs)) → flat_map words (cut_from [] bs) ≡ words bs → flat_map words ((if word then [] else (run ++ b ∷ []) ∷ []) ++ cut_from (if word then run ++ b ∷ [] else []) bs) ≡ words (run ++ b ∷ bs)
words_more true run bs b is all more anew = more refl ∙ ap words (append_assoc run (b ∷ []) bs)
words_more false run bs b is all more anew = ap (λ rest. words (run ++ b ∷ []) ++ rest) anew ∙ words_ended run bs b all is

-- the words of the pieces of what follows a run are those of the run and that
words_from : (run s : List ℕ) → AllByRecursion (λ c. IsTrue (is_word_byte c)) run → flat_map words (cut_from run s) ≡ words (run ++ s)
words_from run [] all = words_last run
words_from run (b ∷ bs) all = words_more (is_word_byte b) run bs b refl all (λ word. words_from (run ++ b ∷ []) bs (all_push (λ c. IsTrue (is_word_byte c)) run b all word)) (words_from [] bs tt)

-- the texts of tokens, piece by piece
each_text : (parts : List (List ℕ)) → flat_map (λ p. map (λ t. t.text) (default_tokens p)) parts ≡ flat_map words parts
each_text [] = refl
each_text (p ∷ parts) = ap (λ first. first ++ flat_map (λ q. map (λ t. t.text) (default_tokens q)) parts) (texts_are p) ∙ ap (λ rest. words p ++ rest) (each_text parts)

-- the words of the pieces are those of the text
pub same_words : (s : List ℕ) → flat_map (λ p. map (λ t. t.text) (default_tokens p)) (cut s) ≡ map (λ t. t.text) (default_tokens s)
same_words s = each_text (cut s) ∙ words_from [] s tt ∙ sym (texts_are s)
