-- The tokens of texts are tokens: laws.
use Rattle.std.proofs.Common.{[], ◌++◌, ◌+◌, ◌∙◌, ◌∷◌, ◌≡◌, ◌≤◌, IsUtf8, List, append_assoc, arith, bytes_eq, chars, codes, cond, encode_utf8_all, le_refl, length, nat_le, not, refl, subst, sym, true, ℕ}
use Rattle.std.specs.List.{AllByRecursion, onto_first}
use Rattle.std.proofs.lemmas.Bool.{and_from, and_parts, cond_both}
use Rattle.std.proofs.lemmas.Str.{scalars-chars}
use Rattle.definitions.specs.Analyzers.{IsAnalyzer, max_run_len, raw_and_default}
use Rattle.definitions.specs.Values.{AreTokens, AreTokensFrom, Token}
use Rattle.definitions.proofs.TokenTexts.{raw_and_default_analyzes}
use Rattle.languages.specs.declared.word_form.WordForm.{WordForm}
use Rattle.languages.specs.declared.word_form.WordForm.TheVariants.{English, Folded, Plain}
use Rattle.languages.specs.declared.writing.Writing.{Writing}
use Rattle.languages.specs.Characters.{are_neighbours, is_word_char, writing}
use Rattle.languages.specs.Folding.{folded}
use Rattle.languages.specs.Forms.{formed}
use Rattle.languages.specs.Tokens.{english18, languages, pair_token, plain18, run_tokens, runs_tokens, text_tokens, word_token, words18}
use Rattle.languages.specs.Words.{Word, goes_on, run_words, runs, words_from}
use Rattle.languages.specs.ScalarLaws.{both_scalars, folding_scalars, formed_scalars}
use lib.Utf8.{scalar, scalars}

-- ---- words of characters

abbrev AreScalars : List ℕ → Type 0
AreScalars cs = scalars cs ≡ true

abbrev WordsAreScalars : List Word → Type 0
WordsAreScalars ws = AllByRecursion (λ w. AreScalars w.1) ws

one_more_scalar : (cs : List ℕ) (c : ℕ) → AreScalars cs → scalar c ≡ true → AreScalars (cs ++ c ∷ [])
one_more_scalar cs c are is = both_scalars cs (c ∷ []) are (and_from _ _ is refl)

-- the words of a run
from_scalars : (w : Writing) (front cs : List ℕ) → AreScalars front → AreScalars cs → WordsAreScalars (words_from w front cs)
unfolding words_from
from_scalars w front [] begun are = (begun, tt)
from_scalars w front (c ∷ cs) begun are =
    let each = and_parts (scalar c) (scalars cs) are in
    cond_both (goes_on w c) (words_from w (front ++ c ∷ []) cs) ((w, front) ∷ words_from (writing c) (c ∷ []) cs) WordsAreScalars
    (λ _. from_scalars w (front ++ c ∷ []) cs (one_more_scalar front c begun each.0) each.1)
    (λ _. (begun, from_scalars (writing c) (c ∷ []) cs (and_from _ _ each.0 refl) each.1))

run_words_scalars : (cs : List ℕ) → AreScalars cs → WordsAreScalars (run_words cs)
unfolding run_words
run_words_scalars [] are = tt
run_words_scalars (c ∷ cs) are =
    let each = and_parts (scalar c) (scalars cs) are in
    from_scalars (writing c) (c ∷ []) cs (and_from _ _ each.0 refl) each.1

-- a character before the first run
first_scalars : (c : ℕ) (rs : List (List ℕ)) → scalar c ≡ true → AllByRecursion AreScalars rs → AllByRecursion AreScalars (onto_first c rs)
first_scalars c [] is are = (and_from _ _ is refl, tt)
first_scalars c (run ∷ rs) is are = (and_from _ _ is are.0, are.1)

-- the runs of a text
runs_scalars : (cs : List ℕ) → AreScalars cs → AllByRecursion AreScalars (runs cs)
runs_scalars [] are = (refl, tt)
runs_scalars (c ∷ cs) are =
    let each = and_parts (scalar c) (scalars cs) are in
    cond_both (not (is_word_char c)) ([] ∷ runs cs) (onto_first c (runs cs)) (AllByRecursion AreScalars)
    (λ _. (refl, runs_scalars cs each.1)) (λ _. first_scalars c (runs cs) each.0 (runs_scalars cs each.1))

-- ---- tokens

-- tokens that may stand behind any token up to a position
abbrev AreTokensUpTo : ℕ → List Token → Type 0
AreTokensUpTo position ts = (least : ℕ) → least ≤ position → AreTokensFrom least ts

-- a word's token before others
word_is_token : (position len : ℕ) (cs : List ℕ) (ts : List Token) → AreScalars cs → AreTokensUpTo position ts → AreTokensUpTo position (word_token position len cs ++ ts)
word_is_token position len cs ts are after least le =
    cond_both (nat_le (length (encode_utf8_all cs)) max_run_len) (record { position = position; position_length = len; text = encode_utf8_all cs } ∷ []) [] (λ front. AreTokensFrom least (front ++ ts))
    (λ _. (le, (cs, (are, refl)), after position (le_refl position))) (λ _. after least le)

-- the token of two neighbours before others
pair_is_token : (form : WordForm) (position : ℕ) (w : Word) (ws : List Word) (ts : List Token) → AreScalars w.1 → WordsAreScalars ws → AreTokensUpTo position ts → AreTokensUpTo position (pair_token form position w ws ++ ts)
pair_is_token form position w [] ts first are after = after
pair_is_token form position w (next ∷ ws) ts first are after = λ least le.
    cond_both (are_neighbours w.0 next.0) (word_token position 2 (formed form (w.1 ++ next.1))) [] (λ front. AreTokensFrom least (front ++ ts))
    (λ _. word_is_token position 2 (formed form (w.1 ++ next.1)) ts (formed_scalars form (w.1 ++ next.1) (both_scalars w.1 next.1 first are.0)) after least le) (λ _. after least le)

four : (a b c d : List Token) → ((a ++ b) ++ c) ++ d ≡ a ++ (b ++ (c ++ d))
four a b c d = append_assoc (a ++ b) c d ∙ append_assoc a b (c ++ d)

-- the tokens of a run before others
run_is_tokens : (form : WordForm) (position : ℕ) (ws : List Word) (ts : List Token) → WordsAreScalars ws → AreTokensUpTo (position + length ws) ts → AreTokensUpTo position (run_tokens form position ws ++ ts)
unfolding run_tokens
run_is_tokens form position [] ts are after = λ least le. after least (omega arith)
run_is_tokens form position (w ∷ ws) ts are after =
    let others = run_is_tokens form (position + 1) ws ts are.1 (λ least le. after least (omega arith)) in
    let behind : AreTokensUpTo position (run_tokens form (position + 1) ws ++ ts) = λ least le. others least (omega arith) in
    subst (AreTokensUpTo position) (sym (four (word_token position 1 (formed form w.1)) (pair_token form position w ws) (run_tokens form (position + 1) ws) ts))
    (word_is_token position 1 (formed form w.1) (pair_token form position w ws ++ (run_tokens form (position + 1) ws ++ ts)) (formed_scalars form w.1 are.0)
    (pair_is_token form position w ws (run_tokens form (position + 1) ws ++ ts) are.0 are.1 behind))

-- the tokens of runs
runs_are_tokens : (form : WordForm) (position : ℕ) (rs : List (List ℕ)) → AllByRecursion AreScalars rs → AreTokensUpTo position (runs_tokens form position rs)
unfolding runs_tokens
runs_are_tokens form position [] are = λ least le. tt
runs_are_tokens form position (run ∷ rs) are =
    run_is_tokens form position (run_words run) (runs_tokens form (position + length (run_words run)) rs) (run_words_scalars run are.0)
    (runs_are_tokens form (position + length (run_words run)) rs are.1)

-- the tokens of a text
text_is_tokens : (form : WordForm) (s : List ℕ) → IsUtf8 s → AreTokens (text_tokens form s)
text_is_tokens form s h =
    let are = folding_scalars (chars s) (scalars-chars s h) in
    runs_are_tokens form 0 (runs (folded (chars s))) (runs_scalars (folded (chars s)) are.all) 0 (le_refl 0)

-- each token's text is a text, and the positions don't fall
pub languages_analyzes : IsAnalyzer languages
languages_analyzes name s h =
    let others = cond (bytes_eq name (codes "english18")) (english18 s) (raw_and_default name s) in
    cond_both (bytes_eq name (codes "words18")) (words18 s) (cond (bytes_eq name (codes "plain18")) (plain18 s) others) AreTokens (λ _. text_is_tokens Folded s h)
    (λ _. cond_both (bytes_eq name (codes "plain18")) (plain18 s) others AreTokens (λ _. text_is_tokens Plain s h)
    (λ _. cond_both (bytes_eq name (codes "english18")) (english18 s) (raw_and_default name s) AreTokens (λ _. text_is_tokens English s h) (λ _. raw_and_default_analyzes name s h)))
