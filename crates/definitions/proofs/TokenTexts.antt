-- Token texts: the tokens of the default analyzer are texts, and their positions don't fall.
use Rattle.std.proofs.Common.{[], ◌&&◌, ◌++◌, ◌+◌, ◌<◌, ◌∷◌, ◌≡◌, ◌≤◌, Bool, IsUtf8, List, None, Some, ap, append-nil, arith, bytes_eq, codes, cond, false, filter, filter_map, if◌then◌else◌, inl, inr, le-leb, le_refl, length, ltb, map, nat_le, not, refl, subst, sym, true, ℕ, ◌%◌, ◌/◌, nat_lt, suc, zero, ◌==◌, ◌||◌, ap₂}
use Rattle.std.specs.List.{AllByRecursion, cons_option, enumerate_from, onto_first, slice_split}
use Rattle.std.specs.Char.{to_ascii_lowercase}
use Rattle.definitions.specs.Analyzers.{IsAnalyzer, default_tokens, is_word_byte, max_run_len, one_token, raw, raw_and_default, run_token, runs}
use Rattle.definitions.specs.Calls.{after}
use Rattle.definitions.specs.Scoring.{part}
use Rattle.definitions.specs.Values.{AreTokens, AreTokensFrom, Token}
use Rattle.definitions.proofs.Runs.{onto_front, onto_front_none, onto_front_part, split_past}
use Rattle.definitions.specs.NumberCodes.{vint_bytes, vint_within}
use Rattle.std.proofs.lemmas.Bool.{and_parts, cases_lt, cond_both, ltb-true, or_right}
use Rattle.std.proofs.lemmas.Str.{IsUtf8-append, IsUtf8-nil, encode_ascii, IsUtf8-from_is_utf8}
use Rattle.std.proofs.lemmas.List.{map-append}
use Rattle.definitions.proofs.Lists.{or_first as first_false, or_second as second_false}
use Rattle.definitions.proofs.OnLiterals.{definitions_on_literals}
use Rattle.definitions.specs.JsonLeaves.{has_zero}
use Rattle.definitions.specs.Terms.{key_bytes}
use lib.Utf8.{encode, encodes, low_scalar, scalar, scalars}

-- ---- parts of texts

-- a text before the first of parts that are texts
front_texts : (bs : List ℕ) (parts : List (List ℕ)) → IsUtf8 bs → AllByRecursion IsUtf8 parts → AllByRecursion IsUtf8 (onto_front bs parts)
front_texts [] parts text texts = texts
front_texts (b ∷ bs) [] text texts = subst (AllByRecursion IsUtf8) (sym (onto_front_none b bs)) (text, tt)
front_texts (b ∷ bs) (part ∷ parts) text texts = subst (AllByRecursion IsUtf8) (sym (onto_front_part (b ∷ bs) part parts)) (IsUtf8-append (b ∷ bs) part text texts.0, texts.1)

-- ---- bytes of characters

-- the bytes of a character past ASCII are past ASCII
pub high_bytes : (c : ℕ) → 128 ≤ c → AllByRecursion (λ b. 128 ≤ b) (encode c)
unfolding encode
high_bytes c h = cond_both (ltb c 128) _ _ (AllByRecursion (λ b. 128 ≤ b)) (λ e. (h, tt))
    (λ e. cond_both (ltb c 2048) _ _ (AllByRecursion (λ b. 128 ≤ b)) (λ e2. (omega arith, (omega arith, tt)))
    (λ e2. cond_both (ltb c 65536) _ _ (AllByRecursion (λ b. 128 ≤ b)) (λ e3. (omega arith, (omega arith, (omega arith, tt))))
    (λ e3. (omega arith, (omega arith, (omega arith, (omega arith, tt)))))))

-- a byte past ASCII is a word byte
word_bytes : (bs : List ℕ) → AllByRecursion (λ b. 128 ≤ b) bs → AllByRecursion (λ b. is_word_byte b ≡ true) bs
word_bytes [] h = tt
word_bytes (b ∷ bs) h = (or_right _ _ (le-leb 128 b h.0), word_bytes bs h.1)

-- the text of one character
pub char_text : (c : ℕ) → scalar c ≡ true → IsUtf8 (encode c)
char_text c h = (c ∷ [], (ap (λ b. b && true) h, append-nil (encode c)))

-- ---- lowered texts

-- an ASCII byte stays one when it is lowered
low_lowered : (b : ℕ) → b < 128 → to_ascii_lowercase b < 128
low_lowered b h = cond_both (ltb b 65) b (cond (ltb b 91) (b + 32) b) (λ c. c < 128) (λ e. h) (λ e. cond_both (ltb b 91) (b + 32) b (λ c. c < 128) (λ e2. let below = ltb-true b 91 e2 in omega arith) (λ e2. h))

-- a byte past ASCII stays as it is
high_lowered : (b : ℕ) → 128 ≤ b → to_ascii_lowercase b ≡ b
high_lowered b h = cond_both (ltb b 65) b (cond (ltb b 91) (b + 32) b) (λ c. c ≡ b) (λ e. refl) (λ e. cond_both (ltb b 91) (b + 32) b (λ c. c ≡ b) (λ e2. let below = ltb-true b 91 e2 in omega arith) (λ e2. refl))

-- so do bytes past ASCII in a row
high_bytes_lowered : (bs : List ℕ) → AllByRecursion (λ b. 128 ≤ b) bs → map to_ascii_lowercase bs ≡ bs
high_bytes_lowered [] h = refl
high_bytes_lowered (b ∷ bs) h = λ i. high_lowered b h.0 i ∷ high_bytes_lowered bs h.1 i

-- a lowered character is a text
char_lowered : (c : ℕ) → scalar c ≡ true → IsUtf8 (map to_ascii_lowercase (encode c))
char_lowered c h = elim (cases_lt c 128) [
  | inl low ↦ subst (λ bs. IsUtf8 (map to_ascii_lowercase bs)) (sym (encode_ascii c low)) (subst IsUtf8 (encode_ascii (to_ascii_lowercase c) (low_lowered c low)) (char_text (to_ascii_lowercase c) (low_scalar (to_ascii_lowercase c) (let below = low_lowered c low in omega arith))))
  | inr high ↦ subst IsUtf8 (sym (high_bytes_lowered (encode c) (high_bytes c high))) (char_text c h)
]

-- lowered characters are a text
chars_lowered : (cs : List ℕ) → scalars cs ≡ true → IsUtf8 (map to_ascii_lowercase (encodes cs))
chars_lowered [] h = IsUtf8-nil
chars_lowered (c ∷ cs) h =
    let are = and_parts (scalar c) (scalars cs) h in
    subst IsUtf8 (sym (map-append to_ascii_lowercase (encode c) (encodes cs))) (IsUtf8-append (map to_ascii_lowercase (encode c)) (map to_ascii_lowercase (encodes cs)) (char_lowered c are.0) (chars_lowered cs are.1))

-- a lowered text is a text
pub lowered : (bs : List ℕ) → IsUtf8 bs → IsUtf8 (map to_ascii_lowercase bs)
lowered bs h = subst (λ text. IsUtf8 (map to_ascii_lowercase text)) h.1.1 (chars_lowered h.0 h.1.0)

-- ---- the parts of a text are texts

-- a character of one byte stands before the first part or separates
ascii_texts : (passes : Bool) (c : ℕ) (parts : List (List ℕ)) → IsUtf8 (c ∷ []) → AllByRecursion IsUtf8 parts → AllByRecursion IsUtf8 (cond (not passes) ([] ∷ parts) (onto_first c parts))
ascii_texts true c parts text texts = front_texts (c ∷ []) parts text texts
ascii_texts false c parts text texts = (IsUtf8-nil, texts)

-- one character more
texts_more : (c : ℕ) (rest : List ℕ) → IsUtf8 (encode c) → AllByRecursion IsUtf8 (slice_split (λ b. not (is_word_byte b)) rest) → AllByRecursion IsUtf8 (slice_split (λ b. not (is_word_byte b)) (encode c ++ rest))
texts_more c rest text texts = elim (cases_lt c 128) [
  | inl low ↦ subst (λ bs. AllByRecursion IsUtf8 (slice_split (λ b. not (is_word_byte b)) (bs ++ rest))) (sym (encode_ascii c low)) (ascii_texts (is_word_byte c) c (slice_split (λ b. not (is_word_byte b)) rest) (subst IsUtf8 (encode_ascii c low) text) texts)
  | inr high ↦ subst (AllByRecursion IsUtf8) (sym (split_past is_word_byte (encode c) rest (word_bytes (encode c) (high_bytes c high)))) (front_texts (encode c) (slice_split (λ b. not (is_word_byte b)) rest) text texts)
]

-- the parts of characters are texts
chars_texts : (cs : List ℕ) → scalars cs ≡ true → AllByRecursion IsUtf8 (slice_split (λ b. not (is_word_byte b)) (encodes cs))
chars_texts [] h = (IsUtf8-nil, tt)
chars_texts (c ∷ cs) h =
    let are = and_parts (scalar c) (scalars cs) h in
    texts_more c (encodes cs) (char_text c are.0) (chars_texts cs are.1)

-- the parts of a text are texts
split_texts : (s : List ℕ) → IsUtf8 s → AllByRecursion IsUtf8 (slice_split (λ b. not (is_word_byte b)) s)
split_texts s h = subst (λ bs. AllByRecursion IsUtf8 (slice_split (λ b. not (is_word_byte b)) bs)) h.1.1 (chars_texts h.0 h.1.0)

-- what holds of each element holds of those that pass a test
pub each_kept : {X : Type 0} (P : X → Type 0) (test : X → Bool) (xs : List X) → AllByRecursion P xs → AllByRecursion P (filter test xs)
each_kept P test [] h = tt
each_kept P test (x ∷ xs) h = cond_both (test x) _ _ (AllByRecursion P) (λ e. (h.0, each_kept P test xs h.1)) (λ e. each_kept P test xs h.1)

-- the runs of a text are texts
pub runs_are_texts : (s : List ℕ) → IsUtf8 s → AllByRecursion IsUtf8 (runs s)
runs_are_texts s h = each_kept IsUtf8 (λ run. not (bytes_eq run [])) (slice_split (λ b. not (is_word_byte b)) s) (split_texts s h)

-- ---- tokens

-- a token at a place before tokens from that place on, where the run is short enough
one_more_token : (short : Bool) (least place : ℕ) (run : List ℕ) (ts : List Token) → least ≤ place → IsUtf8 run → AreTokensFrom place ts → AreTokensFrom least ts → AreTokensFrom least (cons_option (if short then Some (one_token place (map to_ascii_lowercase run)) else None) ts)
one_more_token true least place run ts le text after before = (le, lowered run text, after)
one_more_token false least place run ts le text after before = before

-- the tokens of numbered runs
run_tokens : (least place : ℕ) (rs : List (List ℕ)) → least ≤ place → AllByRecursion IsUtf8 rs → AreTokensFrom least (filter_map run_token (enumerate_from place rs))
run_tokens least place [] le texts = tt
run_tokens least place (run ∷ rs) le texts = one_more_token (nat_le (length run) max_run_len) least place run (filter_map run_token (enumerate_from (place + 1) rs)) le texts.0 (run_tokens place (place + 1) rs (omega arith) texts.1) (run_tokens least (place + 1) rs (omega arith) texts.1)

-- the tokens of the default analyzer are tokens
pub default_is_tokens : (s : List ℕ) → IsUtf8 s → AreTokens (default_tokens s)
default_is_tokens s h = run_tokens 0 0 (runs s) (le_refl 0) (runs_are_texts s h)

-- so is the one token of a whole text
pub raw_is_tokens : (s : List ℕ) → IsUtf8 s → AreTokens (raw s)
raw_is_tokens s h = (le_refl 0, h, tt)

-- the analyzer of the names raw and default is an analyzer
pub raw_and_default_analyzes : IsAnalyzer raw_and_default
raw_and_default_analyzes name s h = cond_both (bytes_eq name (codes "raw")) _ _ AreTokens (λ e. raw_is_tokens s h) (λ e. cond_both (bytes_eq name (codes "default")) _ _ AreTokens (λ e2. default_is_tokens s h) (λ e2. tt))

pub vint_some : (n : ℕ) → 0 < length (vint_bytes n)
unfolding vint_bytes
vint_some zero = omega arith
vint_some (suc n) = go (nat_lt (suc n) 128)
  where
    go : (b : Bool) → 0 < length {A = ℕ} (elim b [ true ↦ (128 + suc n) ∷ [] | false ↦ (suc n % 128) ∷ vint_within n (suc n / 128) ])
    go true = omega arith
    go false = omega arith

pub key_clean : (dots : Bool) (key : List ℕ) → has_zero key ≡ false → has_zero (key_bytes dots key) ≡ false
key_clean dots [] clean = refl
key_clean dots (b ∷ key) clean = ap₂ (λ x y. x || y) (go (dots && (b == 46)) (first_false (0 == b) (has_zero key) clean)) (key_clean dots key (second_false (0 == b) (has_zero key) clean))
  where
    go : (c : Bool) → (0 == b) ≡ false → (0 == (if c then 1 else b)) ≡ false
    go true other = refl
    go false other = other

pub zero_byte : IsUtf8 (0 ∷ [])
unfolding definitions_on_literals
zero_byte = IsUtf8-from_is_utf8 (0 ∷ []) refl
