-- Run words: the words of a run, as the code meets them.
use Rattle.std.proofs.Common.{[], ◌++◌, ◌+◌, ◌<◌, ◌∙◌, ◌∷◌, ◌≡◌, ◌≤◌, Bool, List, ap, arith, drop, false, get_or, length, refl, sym, take, true, ℕ}
use Rattle.std.proofs.lemmas.Bool.{cond-false, cond-true}
use Rattle.std.proofs.lemmas.List.{drop_all, drop_more, get_or_default, take_more}
use Rattle.languages.specs.declared.writing.Writing.{Writing}
use Rattle.languages.specs.Characters.{writing}
use Rattle.languages.specs.Words.{goes_on, run_words, words_from}

-- a word that has begun goes on
from-more : (w : Writing) (front : List ℕ) (c : ℕ) (cs : List ℕ) → goes_on w c ≡ true → words_from w front (c ∷ cs) ≡ words_from w (front ++ c ∷ []) cs
unfolding words_from
from-more w front c cs h = cond-true _ _ _ h

-- or the next one begins
from-next : (w : Writing) (front : List ℕ) (c : ℕ) (cs : List ℕ) → goes_on w c ≡ false → words_from w front (c ∷ cs) ≡ (w, front) ∷ run_words (c ∷ cs)
unfolding words_from run_words
from-next w front c cs h = cond-false _ _ _ h

from-end : (w : Writing) (front : List ℕ) → words_from w front [] ≡ (w, front) ∷ run_words []
unfolding words_from run_words
from-end w front = refl

-- ---- the same at an index of a run, where the code has read the character c

-- the first character begins a word
begun : (run : List ℕ) → 0 < length run → run_words run ≡ words_from (writing (get_or run 0 0)) (take 1 run) (drop 1 run)
unfolding run_words
begun [] some = absurd (omega arith)
begun (c ∷ cs) some = refl

pub word-begun : (w : Writing) (run : List ℕ) (c : ℕ) → 0 < length run → c ≡ get_or run 0 c → w ≡ writing c → run_words run ≡ words_from w (take 1 run) (drop 1 run)
word-begun w run c some read is =
    begun run some ∙ ap (λ v. words_from v (take 1 run) (drop 1 run)) (sym (is ∙ ap writing (read ∙ get_or_default run 0 c 0 some)))

-- the character is of the word before it
pub word-more : (w : Writing) (run : List ℕ) (len c : ℕ) (more : Bool) → len < length run → c ≡ get_or run len c → more ≡ goes_on w c → more ≡ true → words_from w (take len run) (drop len run) ≡ words_from w (take (len + 1) run) (drop (len + 1) run)
word-more w run len c more inside read is goes =
    ap (words_from w (take len run)) (drop_more run len c inside)
    ∙ from-more w (take len run) (get_or run len c) (drop (len + 1) run) (ap (goes_on w) (sym read) ∙ sym is ∙ goes)
    ∙ ap (λ front. words_from w front (drop (len + 1) run)) (sym (take_more run len c inside))

-- the character begins the next word
pub word-next : (w : Writing) (run : List ℕ) (len c : ℕ) (more : Bool) → len < length run → c ≡ get_or run len c → more ≡ goes_on w c → more ≡ false → words_from w (take len run) (drop len run) ≡ (w, take len run) ∷ run_words (drop len run)
word-next w run len c more inside read is stops =
    ap (words_from w (take len run)) (drop_more run len c inside)
    ∙ from-next w (take len run) (get_or run len c) (drop (len + 1) run) (ap (goes_on w) (sym read) ∙ sym is ∙ stops)
    ∙ ap (λ rest. (w, take len run) ∷ run_words rest) (sym (drop_more run len c inside))

-- the run ends
pub word-last : (w : Writing) (run : List ℕ) (len : ℕ) → length run ≤ len → words_from w (take len run) (drop len run) ≡ (w, take len run) ∷ run_words (drop len run)
word-last w run len past =
    ap (words_from w (take len run)) (drop_all len run past)
    ∙ from-end w (take len run)
    ∙ ap (λ rest. (w, take len run) ∷ run_words rest) (sym (drop_all len run past))

-- the writing of the first word
pub first-writing : (w : Writing) (run : List ℕ) (c : ℕ) → 0 < length run → c ≡ get_or run 0 c → w ≡ writing c → w ≡ writing (get_or run 0 0)
first-writing w run c some read is = is ∙ ap writing (read ∙ get_or_default run 0 c 0 some)
