-- The words of a text, as the loop over its bytes meets them.
use Rattle.std.proofs.Common.{◌++◌, ◌+◌, ◌-◌, ◌<◌, ◌≡◌, ◌≤◌, ◌∷◌, ℕ, Bool, All, List, None, Option, Some, [], ap, arith, bytes_eq, drop, false, filter, filter_map, get_or, length, not, option_to_list, refl, subst, sym, take, take-append-drop, true, ◌∙◌}
use Rattle.std.specs.List.{AllWithin, cons_option, enumerate_from}
use Rattle.std.proofs.lemmas.List.{append-nil, append_assoc, drop-drop, drop_all, drop_more, get_or-drop, get_or-take, get_or_default, length-drop, length-take, take_rest}
use Rattle.std.proofs.lemmas.List.Elements.{AllWithin-more}
use Rattle.std.proofs.lemmas.List.Splits.{slice_split-cons_yes, slice_split_at, slice_split_none}
use Rattle.definitions.specs.Analyzers.{is_word_byte, run_token, runs}
use Rattle.definitions.specs.Values.{Token}

-- the tokens of a text whose first word has this number
abbrev pub tokens_from : ℕ → List ℕ → List Token
tokens_from position s = filter_map run_token (enumerate_from position (runs s))

abbrev separates : ℕ → Bool
separates b = not (is_word_byte b)

abbrev IsOfWord : ℕ → Type 0
IsOfWord b = is_word_byte b ≡ true

not-true : (x : Bool) → x ≡ true → not x ≡ false
not-true x e = ap not e

not-false : (x : Bool) → x ≡ false → not x ≡ true
not-false x e = ap not e

-- the parts that aren't empty
abbrev kept : List (List ℕ) → List (List ℕ)
kept = filter (λ run. not (bytes_eq run []))

-- ---- the runs of a text that begins with a word, or with a byte that is in none

runs-gap : (b : ℕ) (s : List ℕ) → is_word_byte b ≡ false → runs (b ∷ s) ≡ runs s
runs-gap b s apart = ap kept (slice_split-cons_yes separates b s (not-false _ apart))

runs-word : (w : List ℕ) (b : ℕ) (s : List ℕ) → 0 < length w → All IsOfWord w → is_word_byte b ≡ false → runs (w ++ b ∷ s) ≡ w ∷ runs s
runs-word [] b s some word apart = absurd (omega arith)
runs-word (a ∷ w) b s some word apart = ap kept (slice_split_at separates (a ∷ w) b s (λ k d h. not-true _ (word k d h)) (not-false _ apart))

runs-last : (w : List ℕ) → 0 < length w → All IsOfWord w → runs w ≡ w ∷ []
runs-last [] some word = absurd (omega arith)
runs-last (a ∷ w) some word = ap kept (slice_split_none separates (a ∷ w) (λ k d h. not-true _ (word k d h)))

-- ---- the same at a place of a text

-- what holds between two places holds of the part between them
All-part : (P : ℕ → Type 0) (s : List ℕ) (start end : ℕ) → end ≤ length s → AllWithin P s start end → All P (take (end - start) (drop start s))
All-part P s start end inside within = λ k d lt.
    let part = length-take (end - start) (drop start s) in
    let below : k < end - start = omega (arith, part) in
    subst P (sym (get_or-take (end - start) (drop start s) k d below ∙ get_or-drop start s k d)) (within (start + k) d (omega arith) (omega arith))

-- a part, the byte after it and what follows
parts : (s : List ℕ) (start end : ℕ) → start ≤ end → end < length s → drop start s ≡ take (end - start) (drop start s) ++ get_or s end 0 ∷ drop (end + 1) s
parts s start end begun inside =
    let at : start + (end - start) ≡ end = omega arith in
    sym (take-append-drop (end - start) (drop start s))
    ∙ ap (λ rest. take (end - start) (drop start s) ++ rest) (drop-drop (end - start) start s ∙ ap (λ n. drop n s) at ∙ drop_more s end 0 inside)

cons-is_append : {X : Type 0} (o : Option X) (xs : List X) → cons_option o xs ≡ option_to_list o ++ xs
cons-is_append None xs = refl
cons-is_append (Some x) xs = refl

-- the tokens of runs, the first of which has this number
abbrev numbered : ℕ → List (List ℕ) → List Token
numbered position rs = filter_map run_token (enumerate_from position rs)

-- a word goes on at a byte that is of one
pub word-more : (s : List ℕ) (start i : ℕ) → i < length s → AllWithin IsOfWord s start i → is_word_byte (get_or s i 0) ≡ true → AllWithin IsOfWord s start (i + 1)
word-more s start i inside word more =
    AllWithin-more IsOfWord s start i word (λ d. subst IsOfWord (get_or_default s i 0 d inside) more)

-- at a byte that is in no word, the word before it ends
pub tokens_from-word : (s : List ℕ) (front : List Token) (position start end : ℕ) → start < end → end < length s → AllWithin IsOfWord s start end → is_word_byte (get_or s end 0) ≡ false
    → (front ++ option_to_list (run_token (position, take (end - start) (drop start s)))) ++ tokens_from (position + 1) (drop (end + 1) s) ≡ front ++ tokens_from position (drop start s)
tokens_from-word s front position start end some inside word apart =
    let w = take (end - start) (drop start s) in
    let long : 0 < length w = omega (arith, length-take (end - start) (drop start s), length-drop start s) in
    append_assoc front _ _
    ∙ ap (λ ts. front ++ ts)
    (sym (ap (tokens_from position) (parts s start end (omega arith) inside)
    ∙ ap (numbered position) (runs-word w (get_or s end 0) (drop (end + 1) s) long (All-part IsOfWord s start end (omega arith) word) apart)
    ∙ cons-is_append (run_token (position, w)) _))

-- where no word was begun, nothing is left out
pub tokens_from-gap : (s : List ℕ) (position start : ℕ) → start < length s → is_word_byte (get_or s start 0) ≡ false → tokens_from position (drop (start + 1) s) ≡ tokens_from position (drop start s)
tokens_from-gap s position start inside apart =
    sym (ap (tokens_from position) (drop_more s start 0 inside) ∙ ap (numbered position) (runs-gap (get_or s start 0) (drop (start + 1) s) apart))

-- the text's end ends the last word
pub tokens_from-last : (s : List ℕ) (position start : ℕ) → start < length s → AllWithin IsOfWord s start (length s) → option_to_list (run_token (position, drop start s)) ≡ tokens_from position (drop start s)
tokens_from-last s position start some word =
    let long : 0 < length (drop start s) = omega (arith, length-drop start s) in
    let all : All IsOfWord (drop start s) = subst (All IsOfWord) (take_rest s start) (All-part IsOfWord s start (length s) (omega arith) word) in
    sym (ap (numbered position) (runs-last (drop start s) long all) ∙ cons-is_append (run_token (position, drop start s)) [] ∙ append-nil _)

pub tokens_from-none : (s : List ℕ) (position start : ℕ) → length s ≤ start → tokens_from position (drop start s) ≡ []
tokens_from-none s position start past = ap (tokens_from position) (drop_all start s past)
