-- Run tokens: the tokens of runs, as the code appends them.
use Rattle.std.proofs.Common.{All, [], ◌++◌, ◌+◌, ◌-◌, ◌<◌, ◌∙◌, ◌∷◌, ◌≡◌, ◌≤◌, Bool, List, ap, ap₂, append-nil, append_assoc, arith, drop, false, get_or, length, not, refl, subst, sym, take, take-append-drop, true, ℕ}
use Rattle.std.specs.List.{AllWithin}
use Rattle.std.proofs.lemmas.Bool.{cond-false, cond-true, cond_both}
use Rattle.std.proofs.lemmas.List.{drop-drop, drop-take, drop_all, drop_more, get_or-drop, get_or-take, get_or_default, length-drop, length-take, take-take, take_rest}
use Rattle.std.proofs.lemmas.List.Elements.{AllWithin-more}
use Rattle.std.proofs.lemmas.List.Splits.{slice_split_at, slice_split_none}
use Rattle.definitions.specs.Values.{Token}
use Rattle.languages.specs.declared.word_form.WordForm.{WordForm}
use Rattle.languages.specs.declared.writing.Writing.{Writing}
use Rattle.languages.specs.Characters.{are_neighbours, is_word_char, writing}
use Rattle.languages.specs.Forms.{formed}
use Rattle.languages.specs.Tokens.{pair_token, run_tokens, runs_tokens, word_token}
use Rattle.languages.specs.Words.{Word, goes_on, run_words, runs, words_from}
use Rattle.languages.proofs.RunWords.{first-writing}

-- ---- the tokens of one word

-- the tokens of a word, and then those of the others
pub run-step : (form : WordForm) (front : List Token) (position : ℕ) (w : Word) (ws : List Word) → ((front ++ word_token position 1 (formed form w.1)) ++ pair_token form position w ws) ++ run_tokens form (position + 1) ws ≡ front ++ run_tokens form position (w ∷ ws)
unfolding run_tokens
run-step form front position w ws =
    let word = word_token position 1 (formed form w.1) in
    let pair = pair_token form position w ws in
    ap (λ ts. ts ++ run_tokens form (position + 1) ws) (append_assoc front word pair) ∙ append_assoc front (word ++ pair) (run_tokens form (position + 1) ws)

pub run-end : (form : WordForm) (front : List Token) (position : ℕ) → front ++ run_tokens form position (run_words []) ≡ front
unfolding run_tokens run_words
run-end form front position = append-nil front

pub no_words : length (run_words []) ≡ 0
unfolding run_words
no_words = refl

-- ---- pairs

-- what has begun is the first word
first-word : (w : Writing) (front cs : List ℕ) → (word : List ℕ) × (rest : List Word) × (words_from w front cs ≡ (w, word) ∷ rest)
unfolding words_from
first-word w front [] = (front, [], refl)
first-word w front (c ∷ cs) =
    cond_both (goes_on w c) (words_from w (front ++ c ∷ []) cs) ((w, front) ∷ words_from (writing c) (c ∷ []) cs)
    (λ ws. (word : List ℕ) × (rest : List Word) × (ws ≡ (w, word) ∷ rest))
    (λ _. first-word w (front ++ c ∷ []) cs) (λ _. (front, words_from (writing c) (c ∷ []) cs, refl))

run_words-first : (cs : List ℕ) → 0 < length cs → (word : List ℕ) × (rest : List Word) × (run_words cs ≡ (writing (get_or cs 0 0), word) ∷ rest)
unfolding run_words
run_words-first [] some = absurd (omega arith)
run_words-first (c ∷ cs) some = first-word (writing c) (c ∷ []) cs

-- the writing of the character read at a position, and of the first behind it
writing-at : (w : Writing) (run : List ℕ) (len c : ℕ) → len < length run → c ≡ get_or run len c → w ≡ writing c → w ≡ writing (get_or (drop len run) 0 0)
writing-at w run len c inside read is =
    let at : len + 0 ≡ len = omega arith in
    is ∙ ap writing (read ∙ get_or_default run len c 0 inside ∙ sym (get_or-drop len run 0 0 ∙ ap (λ n. get_or run n 0) at))

pub pair-end : (form : WordForm) (position : ℕ) (w : Word) (run : List ℕ) (len : ℕ) → length run ≤ len → pair_token form position w (run_words (drop len run)) ≡ []
unfolding run_words
pair-end form position w run len past = ap (λ rest. pair_token form position w (run_words rest)) (drop_all len run past)

-- the characters of two parts in a row
both-parts : (len n : ℕ) (run : List ℕ) → take len run ++ take n (drop len run) ≡ take (len + n) run
both-parts len n run =
    ap₂ ◌++◌ (sym (take-take len (len + n) run (omega arith))) (sym (drop-take len n run))
    ∙ take-append-drop len (take (len + n) run)

-- whether the first word and the one at an index are neighbours, by the characters read there
near-at : (run : List ℕ) (len c d : ℕ) (first next : Writing) (near : Bool) → len < length run → c ≡ get_or run 0 c → first ≡ writing c → d ≡ get_or run len d → next ≡ writing d → near ≡ are_neighbours first next → near ≡ are_neighbours (writing (get_or run 0 0)) (writing (get_or (drop len run) 0 0))
near-at run len c d first next near inside read is read_next is_next e =
    e ∙ ap₂ are_neighbours (first-writing first run c (omega arith) read is) (writing-at next run len d inside read_next is_next)

pub pair-some : (form : WordForm) (position : ℕ) (run : List ℕ) (len n c d : ℕ) (first next : Writing) (near : Bool) → len < length run → c ≡ get_or run 0 c → first ≡ writing c → d ≡ get_or run len d → next ≡ writing d → near ≡ are_neighbours first next → near ≡ true
    → run_words (drop len run) ≡ (writing (get_or (drop len run) 0 0), take n (drop len run)) ∷ run_words (drop n (drop len run))
    → word_token position 2 (formed form (take (len + n) run)) ≡ pair_token form position (writing (get_or run 0 0), take len run) (run_words (drop len run))
pair-some form position run len n c d first next near inside read is read_next is_next e holds words =
    let test = near-at run len c d first next near inside read is read_next is_next e in
    ap (λ cs. word_token position 2 (formed form cs)) (sym (both-parts len n run))
    ∙ sym (cond-true (are_neighbours (writing (get_or run 0 0)) (writing (get_or (drop len run) 0 0))) (word_token position 2 (formed form (take len run ++ take n (drop len run)))) [] (sym test ∙ holds))
    ∙ ap (pair_token form position (writing (get_or run 0 0), take len run)) (sym words)

pub pair-none : (form : WordForm) (position : ℕ) (run : List ℕ) (len c d : ℕ) (first next : Writing) (near : Bool) → len < length run → c ≡ get_or run 0 c → first ≡ writing c → d ≡ get_or run len d → next ≡ writing d → near ≡ are_neighbours first next → near ≡ false
    → [] ≡ pair_token form position (writing (get_or run 0 0), take len run) (run_words (drop len run))
pair-none form position run len c d first next near inside read is read_next is_next e fails =
    let test = near-at run len c d first next near inside read is read_next is_next e in
    let words = run_words-first (drop len run) (omega (arith, length-drop len run)) in
    sym (cond-false (are_neighbours (writing (get_or run 0 0)) (writing (get_or (drop len run) 0 0))) (word_token position 2 (formed form (take len run ++ words.0))) [] (sym test ∙ fails))
    ∙ ap (pair_token form position (writing (get_or run 0 0), take len run)) (sym words.2)

-- ---- runs

not-true : (x : Bool) → x ≡ true → not x ≡ false
not-true x e = ap not e

not-false : (x : Bool) → x ≡ false → not x ≡ true
not-false x e = ap not e

abbrev IsOfRun : ℕ → Type 0
IsOfRun c = is_word_char c ≡ true

abbrev separates : ℕ → Bool
separates c = not (is_word_char c)

-- what holds between two indexes holds of the part between them
All-part : (s : List ℕ) (start end : ℕ) → end ≤ length s → AllWithin IsOfRun s start end → All (λ c. separates c ≡ false) (take (end - start) (drop start s))
All-part s start end inside within = λ k d lt.
    let part = length-take (end - start) (drop start s) in
    let below : k < end - start = omega (arith, part) in
    not-true _ (subst IsOfRun (sym (get_or-take (end - start) (drop start s) k d below ∙ get_or-drop start s k d)) (within (start + k) d (omega arith) (omega arith)))

-- a part, the character after it and what follows
parts : (s : List ℕ) (start end c : ℕ) → start ≤ end → end < length s → drop start s ≡ take (end - start) (drop start s) ++ get_or s end c ∷ drop (end + 1) s
parts s start end c begun inside =
    let at : start + (end - start) ≡ end = omega arith in
    sym (take-append-drop (end - start) (drop start s))
    ∙ ap (λ rest. take (end - start) (drop start s) ++ rest) (drop-drop (end - start) start s ∙ ap (λ n. drop n s) at ∙ drop_more s end c inside)

-- a run goes on at a character of words
pub run-more : (s : List ℕ) (start i c : ℕ) (is : Bool) → i < length s → AllWithin IsOfRun s start i → c ≡ get_or s i c → is ≡ is_word_char c → is ≡ true → AllWithin IsOfRun s start (i + 1)
run-more s start i c is inside run read e holds =
    AllWithin-more IsOfRun s start i run (λ d. ap is_word_char (sym (read ∙ get_or_default s i c d inside)) ∙ sym e ∙ holds)

-- at any other character it ends
pub runs-step : (form : WordForm) (s : List ℕ) (front : List Token) (position start end c : ℕ) (is : Bool) → start ≤ end → end < length s → AllWithin IsOfRun s start end → c ≡ get_or s end c → is ≡ is_word_char c → is ≡ false
    → let run = take (end - start) (drop start s) in
    (front ++ run_tokens form position (run_words run)) ++ runs_tokens form (position + length (run_words run)) (runs (drop (end + 1) s)) ≡ front ++ runs_tokens form position (runs (drop start s))
unfolding runs_tokens
runs-step form s front position start end c is begun inside within read e fails =
    let run = take (end - start) (drop start s) in
    append_assoc front (run_tokens form position (run_words run)) _
    ∙ ap (λ rs. front ++ runs_tokens form position rs)
    (sym (ap runs (parts s start end c begun inside)
    ∙ slice_split_at separates run (get_or s end c) (drop (end + 1) s) (All-part s start end (omega arith) within) (not-false _ (ap is_word_char (sym read) ∙ sym e ∙ fails))))

-- and where the text ends
pub runs-last : (form : WordForm) (s : List ℕ) (front : List Token) (position start : ℕ) → AllWithin IsOfRun s start (length s) → front ++ run_tokens form position (run_words (drop start s)) ≡ front ++ runs_tokens form position (runs (drop start s))
unfolding runs_tokens
runs-last form s front position start within =
    let all = subst (All (λ c. separates c ≡ false)) (take_rest s start) (All-part s start (length s) (omega arith) within) in
    ap (λ ts. front ++ ts) (sym (append-nil (run_tokens form position (run_words (drop start s)))))
    ∙ ap (λ rs. front ++ runs_tokens form position rs) (sym (slice_split_none separates (drop start s) all))
