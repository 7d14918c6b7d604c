-- The terms of documents that an add takes have the bytes of values of their fields.
use Rattle.std.proofs.Common.{[], ◌%◌, ◌&&◌, ◌++◌, ◌+ℤ◌, ◌+◌, ◌*◌, ◌/◌, ◌<◌, ◌==◌, ◌^◌, ◌||◌, ◌≡◌, ◌≤◌, ◌∙◌, ◌∷◌, Bool, FitsSigned, IfSome, IsUtf8, List, None, Option, Some, ap, ap₂, arith, bytes_eq, cond, drop, false, filter, filter_map, flat_map, if◌then◌else◌, inl, inr, length, map, nat_abs, nat_le, nat_lt, negsuc, not, option_map, pos, refl, slice_get, subst, suc, sym, take, true, true≢false, zero, ℕ, ℤ}
use Rattle.std.specs.Int.{from_be_bytes, to_be_bytes, w64}
use Rattle.std.specs.List.{AllByRecursion, after_first, before_first, cons_option, enumerate_from, join_with_byte, list_any, position_or_len, range_with_len}
use Rattle.std.specs.Option.{option_map_or}
use Rattle.std.specs.Prelude.{⊤}
use Rattle.std.specs.Str.{is_utf8}
use Rattle.std.proofs.lemmas.Bool.{and_parts, cases_lt}
use Rattle.std.proofs.lemmas.Bool.Decides.{nat_tests}
use Rattle.std.proofs.lemmas.Int.{ints}
use Rattle.std.proofs.lemmas.List.{map-append}
use Rattle.std.proofs.lemmas.List.Folds.{list_any-append}
use Rattle.std.proofs.lemmas.Nat.{from_be_bytes-to_be_bytes_8}
use Rattle.std.proofs.lemmas.Slice.Eq.{bytes_eq-Decides}
use Rattle.std.proofs.lemmas.Str.{IsUtf8-append, IsUtf8-from_is_utf8, IsUtf8-nil, encode_ascii, is_utf8-from_IsUtf8}
use Rattle.definitions.proofs.OnLiterals.{definitions_on_literals}
use Rattle.definitions.proofs.Lists.{or_first as first_false, or_second as second_false, all_append}
use Rattle.definitions.proofs.TermsReadBack.{kind_there, key_there}
use Rattle.definitions.proofs.TokenTexts.{char_text, high_bytes, each_kept as all_filter, key_clean, zero_byte as step_end}
use Rattle.definitions.specs.Analyzers.{Analyzer, IsAnalyzer, kept, max_token_len, tokens_of}
use Rattle.definitions.specs.Facets.{encoded}
use Rattle.definitions.specs.Indexing.{Placed, facet_terms, field_terms, json_terms, kind_terms, leaf_term, leaves_terms, path_terms, terms_of, text_terms, value_terms}
use Rattle.definitions.specs.JsonLeaves.{has_zero, is_text_leaf, leaf_text, leaves, members_leaves, once, text_paths, texts_at, values_leaves}
use Rattle.definitions.specs.Places.{next_start, places, places_from}
use Rattle.definitions.specs.Postings.{Posting, posting_of, postings}
use Rattle.definitions.specs.Recorded.{count_of, holds, positions_of}
use Rattle.definitions.specs.Schema.{Entry, Kind, Schema, bool_kind, bytes_kind, date_kind, facet_kind, gap_of, i64_kind, ip_addr_kind, is_indexed, json_kind, text_kind, u64_kind}
use Rattle.definitions.specs.Terms.{json_term, key_bytes, kind_in, leaf_bytes, path_of_keys, payload_of, signed_bytes, term_bytes, type_code, value_bytes, whole_seconds}
use Rattle.definitions.specs.Values.{AreMembers, AreTokens, AreTokensFrom, AreValues, Document, IsDocument, IsStep, IsValue, Members, Token, Value, Values, array, bool, bytes, date, facet, i64, ip_addr, member, no_members, no_values, null, object, pre_tok_str, str, u64, value, values_of}
use Rattle.layouts.specs.InvertedIndexes.{AreIndexed, IndexedField, IndexedTerm, IsField, IsTerm, field_ids, option_of_term, term_of_key}
use Rattle.segment_definitions.specs.Keys.{AreKeyed, is_key, is_key_of, is_leaf}
use Rattle.segment_definitions.specs.Segments.{IsTaken}
use lib.Utf8.{encode, encodes, scalar, scalars}

-- ---- lists

all_map : {X Y : Type 0} (P : X → Type 0) (Q : Y → Type 0) (f : X → Y) → ((x : X) → P x → Q (f x)) → (xs : List X) → AllByRecursion P xs → AllByRecursion Q (map f xs)
all_map P Q f to [] all = tt
all_map P Q f to (x ∷ xs) all = (to x all.0, all_map P Q f to xs all.1)

all_filter_map : {X Y : Type 0} (P : X → Type 0) (Q : Y → Type 0) (f : X → Option Y) → ((x : X) → P x → IfSome (f x) Q) → (xs : List X) → AllByRecursion P xs → AllByRecursion Q (filter_map f xs)
all_filter_map P Q f to [] all = tt
all_filter_map P Q f to (x ∷ xs) all = go (f x) (to x all.0) (all_filter_map P Q f to xs all.1)
  where
    go : (o : Option _) → IfSome o Q → AllByRecursion Q (filter_map f xs) → AllByRecursion Q (cons_option o (filter_map f xs))
    go None one rest = rest
    go (Some y) one rest = (one, rest)

all_flat_map : {X Y : Type 0} (P : X → Type 0) (Q : Y → Type 0) (f : X → List Y) → ((x : X) → P x → AllByRecursion Q (f x)) → (xs : List X) → AllByRecursion P xs → AllByRecursion Q (flat_map f xs)
all_flat_map P Q f to [] all = tt
all_flat_map P Q f to (x ∷ xs) all = all_append Q (f x) (flat_map f xs) (to x all.0) (all_flat_map P Q f to xs all.1)

all_once : (P : List ℕ → Type 0) (xs : List (List ℕ)) → AllByRecursion P xs → AllByRecursion P (once bytes_eq xs)
all_once P [] all = tt
all_once P (x ∷ xs) all = (all.0, all_filter P (λ y. not (bytes_eq x y)) (once bytes_eq xs) (all_once P xs all.1))

-- ---- texts

separator : IsUtf8 (1 ∷ [])
unfolding definitions_on_literals
separator = IsUtf8-from_is_utf8 (1 ∷ []) refl

join_text : (c : ℕ) → IsUtf8 (c ∷ []) → (xs : List (List ℕ)) → AllByRecursion IsUtf8 xs → IsUtf8 (join_with_byte c xs)
join_text c one [] all = IsUtf8-nil
join_text c one (x ∷ []) all = all.0
join_text c one (x ∷ y ∷ xs) all = IsUtf8-append x (c ∷ join_with_byte c (y ∷ xs)) all.0 (IsUtf8-append (c ∷ []) (join_with_byte c (y ∷ xs)) one (join_text c one (y ∷ xs) all.1))

-- a dot that separates keys, and any other byte
abbrev split_byte : Bool → ℕ → ℕ
split_byte dots b = if dots && (b == 46) then 1 else b

high_kept : (dots : Bool) (b : ℕ) → 128 ≤ b → split_byte dots b ≡ b
high_kept dots b high = go dots (b == 46) refl
  where
    go : (d t : Bool) → (b == 46) ≡ t → (if d && t then 1 else b) ≡ b
    go true true e = absurd (let same : b ≡ 46 = grind (arith, nat_tests, e) in omega (arith, high, same))
    go false true e = refl
    go true false e = refl
    go false false e = refl

highs_kept : (dots : Bool) (bs : List ℕ) → AllByRecursion (λ b. 128 ≤ b) bs → map (split_byte dots) bs ≡ bs
highs_kept dots [] all = refl
highs_kept dots (b ∷ bs) all = ap₂ (λ c cs. c ∷ cs) (high_kept dots b all.0) (highs_kept dots bs all.1)

low_text : (c : ℕ) (b : Bool) → IsUtf8 (c ∷ []) → IsUtf8 ((if b then 1 else c) ∷ [])
low_text c true text = separator
low_text c false text = text

char_split : (dots : Bool) (c : ℕ) → scalar c ≡ true → IsUtf8 (map (split_byte dots) (encode c))
char_split dots c h = elim (cases_lt c 128) [
  | inl low ↦ subst (λ bs. IsUtf8 (map (split_byte dots) bs)) (sym (encode_ascii c low)) (low_text c (dots && (c == 46)) (subst IsUtf8 (encode_ascii c low) (char_text c h)))
  | inr high ↦ subst IsUtf8 (sym (highs_kept dots (encode c) (high_bytes c high))) (char_text c h)
]

chars_split : (dots : Bool) (cs : List ℕ) → scalars cs ≡ true → IsUtf8 (map (split_byte dots) (encodes cs))
chars_split dots [] h = IsUtf8-nil
chars_split dots (c ∷ cs) h =
    let are = and_parts (scalar c) (scalars cs) h in
    subst IsUtf8 (sym (map-append (split_byte dots) (encode c) (encodes cs))) (IsUtf8-append (map (split_byte dots) (encode c)) (map (split_byte dots) (encodes cs)) (char_split dots c are.0) (chars_split dots cs are.1))

key_text : (dots : Bool) (key : List ℕ) → IsUtf8 key → IsUtf8 (key_bytes dots key)
key_text dots key h = subst (λ text. IsUtf8 (map (split_byte dots) text)) h.1.1 (chars_split dots h.0 h.1.0)

-- ---- paths

-- a text without U+0000
abbrev IsPath : List ℕ → Type 0
IsPath path = IsUtf8 path × (has_zero path ≡ false)

path_clean : (dots : Bool) (keys : List (List ℕ)) → AllByRecursion IsPath keys → has_zero (path_of_keys dots keys) ≡ false
path_clean dots [] all = refl
path_clean dots (k ∷ []) all = key_clean dots k all.0.1
path_clean dots (k ∷ l ∷ keys) all =
    list_any-append (◌==◌ 0) (key_bytes dots k) (1 ∷ path_of_keys dots (l ∷ keys))
    ∙ ap₂ (λ a b. a || b) (key_clean dots k all.0.1) (path_clean dots (l ∷ keys) all.1)

path_good : (dots : Bool) (keys : List (List ℕ)) → AllByRecursion IsPath keys → IsPath (path_of_keys dots keys)
path_good dots keys all = (join_text 1 separator (map (key_bytes dots) keys) (all_map IsPath IsUtf8 (key_bytes dots) (λ key path. key_text dots key path.0) keys all), path_clean dots keys all)

behind_zero : (x : ℕ) (xs : List ℕ) → (0 == x) ≡ false → after_first (◌==◌ 0) (x ∷ xs) ≡ after_first (◌==◌ 0) xs
behind_zero x xs other =
    let next : (1 + position_or_len (◌==◌ 0) xs) + 1 ≡ suc (position_or_len (◌==◌ 0) xs + 1) = omega arith in
    ap (λ b. drop (cond (not b) (1 + position_or_len (◌==◌ 0) xs) 0 + 1) (x ∷ xs)) other ∙ ap (λ n. drop n (x ∷ xs)) next

before_zero : (x : ℕ) (xs : List ℕ) → (0 == x) ≡ false → before_first (◌==◌ 0) (x ∷ xs) ≡ x ∷ before_first (◌==◌ 0) xs
before_zero x xs other =
    let next : 1 + position_or_len (◌==◌ 0) xs ≡ suc (position_or_len (◌==◌ 0) xs) = omega arith in
    ap (λ b. take (cond (not b) (1 + position_or_len (◌==◌ 0) xs) 0) (x ∷ xs)) other ∙ ap (λ n. take n (x ∷ xs)) next

before_path : (path leaf : List ℕ) → has_zero path ≡ false → before_first (◌==◌ 0) (path ++ 0 ∷ leaf) ≡ path
before_path [] leaf clean = refl
before_path (x ∷ path) leaf clean = before_zero x (path ++ 0 ∷ leaf) (first_false (0 == x) (has_zero path) clean) ∙ ap (λ p. x ∷ p) (before_path path leaf (second_false (0 == x) (has_zero path) clean))

behind_path : (path leaf : List ℕ) → has_zero path ≡ false → after_first (◌==◌ 0) (path ++ 0 ∷ leaf) ≡ leaf
behind_path [] leaf clean = refl
behind_path (x ∷ path) leaf clean = behind_zero x (path ++ 0 ∷ leaf) (first_false (0 == x) (has_zero path) clean) ∙ behind_path path leaf (second_false (0 == x) (has_zero path) clean)

json_keyed : (path leaf : List ℕ) → IsPath path → is_leaf leaf ≡ true → is_key json_kind (path ++ 0 ∷ leaf) ≡ true
json_keyed path leaf good is =
    ap₂ (λ p l. is_utf8 p && is_leaf l) (before_path path leaf good.1) (behind_path path leaf good.1)
    ∙ ap₂ (λ a b. a && b) (is_utf8-from_IsUtf8 path good.0) is

-- ---- the leaves of JSON values

abbrev IsGoodLeaf : List ℕ × Value → Type 0
IsGoodLeaf l = IsPath l.0 × IsValue l.1

keys_more : (keys : List (List ℕ)) (k : List ℕ) → AllByRecursion IsPath keys → IsPath k → AllByRecursion IsPath (keys ++ k ∷ [])
keys_more keys k all one = all_append IsPath keys (k ∷ []) all (one, tt)

unless_zero : (k : List ℕ) (ls : List (List ℕ × Value)) (b : Bool) → (has_zero k ≡ false → AllByRecursion IsGoodLeaf ls) → has_zero k ≡ b → AllByRecursion IsGoodLeaf (if b then [] else ls)
unless_zero k ls true inside is = tt
unless_zero k ls false inside is = inside is

mutual
  leaves_good : (dots : Bool) (keys : List (List ℕ)) (v : Value) → AllByRecursion IsPath keys → IsValue v → AllByRecursion IsGoodLeaf (leaves dots keys v)
  leaves_good dots keys null all is = ((path_good dots keys all, is), tt)
  leaves_good dots keys (str s) all is = ((path_good dots keys all, is), tt)
  leaves_good dots keys (pre_tok_str s ts) all is = ((path_good dots keys all, is), tt)
  leaves_good dots keys (u64 n) all is = ((path_good dots keys all, is), tt)
  leaves_good dots keys (i64 z) all is = ((path_good dots keys all, is), tt)
  leaves_good dots keys (bool b) all is = ((path_good dots keys all, is), tt)
  leaves_good dots keys (date z) all is = ((path_good dots keys all, is), tt)
  leaves_good dots keys (facet steps) all is = ((path_good dots keys all, is), tt)
  leaves_good dots keys (bytes bs) all is = ((path_good dots keys all, is), tt)
  leaves_good dots keys (ip_addr n) all is = ((path_good dots keys all, is), tt)
  leaves_good dots keys (array vs) all is = values_good dots keys vs all is
  leaves_good dots keys (object ms) all is = members_good dots keys ms all is

  values_good : (dots : Bool) (keys : List (List ℕ)) (vs : Values) → AllByRecursion IsPath keys → AreValues vs → AllByRecursion IsGoodLeaf (values_leaves dots keys vs)
  values_good dots keys no_values all are = tt
  values_good dots keys (value v vs) all are = all_append IsGoodLeaf (leaves dots keys v) (values_leaves dots keys vs) (leaves_good dots keys v all are.0) (values_good dots keys vs all are.1)

  members_good : (dots : Bool) (keys : List (List ℕ)) (ms : Members) → AllByRecursion IsPath keys → AreMembers ms → AllByRecursion IsGoodLeaf (members_leaves dots keys ms)
  members_good dots keys no_members all are = tt
  members_good dots keys (member k v ms) all are =
      all_append IsGoodLeaf (if has_zero k then [] else leaves dots (keys ++ (k ∷ [])) v) (members_leaves dots keys ms)
      (unless_zero k (leaves dots (keys ++ (k ∷ [])) v) (has_zero k) (λ clean. leaves_good dots (keys ++ (k ∷ [])) v (keys_more keys k all (are.0, clean)) are.1) refl)
      (members_good dots keys ms all are.2)

-- ---- values

seconds_number : (z : ℤ) → FitsSigned w64 z → (nat_abs (whole_seconds z +ℤ pos (2 ^ 63)) < 2 ^ 64) × (nat_abs (whole_seconds z +ℤ pos (2 ^ 63)) % 10 ^ 9 ≡ 2 ^ 63 % 10 ^ 9)
seconds_number (pos n) fits = (let cut : n / 10 ^ 9 * 10 ^ 9 ≤ n = omega arith in (omega (arith, ints), omega (arith, ints)))
seconds_number (negsuc n) fits = (let cut : suc n / 10 ^ 9 * 10 ^ 9 ≤ suc n = omega arith in (omega (arith, ints), omega (arith, ints)))

second_keyed : (z : ℤ) → FitsSigned w64 z → (from_be_bytes w64 (signed_bytes (whole_seconds z)) % 10 ^ 9 == 2 ^ 63 % 10 ^ 9) ≡ true
second_keyed z fits =
    let number = seconds_number z fits in
    ap (λ n. n % 10 ^ 9 == 2 ^ 63 % 10 ^ 9) (from_be_bytes-to_be_bytes_8 (nat_abs (whole_seconds z +ℤ pos (2 ^ 63))) number.0) ∙ ap (λ n. n == 2 ^ 63 % 10 ^ 9) number.1

large_keyed : (n : ℕ) → n < 2 ^ 64 → nat_lt n (2 ^ 63) ≡ false → nat_le (2 ^ 63) (from_be_bytes w64 (to_be_bytes w64 n)) ≡ true
large_keyed n fits large = ap (nat_le (2 ^ 63)) (from_be_bytes-to_be_bytes_8 n fits) ∙ grind (arith, nat_tests, large)

-- the bytes of a value are a key
abbrev HasKey : Kind → Value → Type 0
HasKey kind v = IfSome (value_bytes kind v) (λ bs. is_key kind bs ≡ true)

bool_keyed : (b : Bool) → is_key bool_kind (to_be_bytes w64 (if b then 1 else 0)) ≡ true
bool_keyed true = refl
bool_keyed false = refl

u64_key : (v : Value) → IsValue v → HasKey u64_kind v
u64_key null is = tt
u64_key (str s) is = tt
u64_key (pre_tok_str s ts) is = tt
u64_key (u64 n) is = refl
u64_key (i64 z) is = tt
u64_key (bool b) is = tt
u64_key (date z) is = tt
u64_key (facet steps) is = tt
u64_key (bytes bs) is = tt
u64_key (ip_addr n) is = tt
u64_key (array vs) is = tt
u64_key (object ms) is = tt

i64_key : (v : Value) → IsValue v → HasKey i64_kind v
i64_key null is = tt
i64_key (str s) is = tt
i64_key (pre_tok_str s ts) is = tt
i64_key (u64 n) is = tt
i64_key (i64 z) is = refl
i64_key (bool b) is = tt
i64_key (date z) is = tt
i64_key (facet steps) is = tt
i64_key (bytes bs) is = tt
i64_key (ip_addr n) is = tt
i64_key (array vs) is = tt
i64_key (object ms) is = tt

bool_key : (v : Value) → IsValue v → HasKey bool_kind v
bool_key null is = tt
bool_key (str s) is = tt
bool_key (pre_tok_str s ts) is = tt
bool_key (u64 n) is = tt
bool_key (i64 z) is = tt
bool_key (bool b) is = bool_keyed b
bool_key (date z) is = tt
bool_key (facet steps) is = tt
bool_key (bytes bs) is = tt
bool_key (ip_addr n) is = tt
bool_key (array vs) is = tt
bool_key (object ms) is = tt

date_key : (v : Value) → IsValue v → HasKey date_kind v
date_key null is = tt
date_key (str s) is = tt
date_key (pre_tok_str s ts) is = tt
date_key (u64 n) is = tt
date_key (i64 z) is = tt
date_key (bool b) is = tt
date_key (date z) is = second_keyed z is
date_key (facet steps) is = tt
date_key (bytes bs) is = tt
date_key (ip_addr n) is = tt
date_key (array vs) is = tt
date_key (object ms) is = tt

bytes_key : (v : Value) → IsValue v → HasKey bytes_kind v
bytes_key null is = tt
bytes_key (str s) is = tt
bytes_key (pre_tok_str s ts) is = tt
bytes_key (u64 n) is = tt
bytes_key (i64 z) is = tt
bytes_key (bool b) is = tt
bytes_key (date z) is = tt
bytes_key (facet steps) is = tt
bytes_key (bytes bs) is = refl
bytes_key (ip_addr n) is = tt
bytes_key (array vs) is = tt
bytes_key (object ms) is = tt

ip_addr_key : (v : Value) → IsValue v → HasKey ip_addr_kind v
ip_addr_key null is = tt
ip_addr_key (str s) is = tt
ip_addr_key (pre_tok_str s ts) is = tt
ip_addr_key (u64 n) is = tt
ip_addr_key (i64 z) is = tt
ip_addr_key (bool b) is = tt
ip_addr_key (date z) is = tt
ip_addr_key (facet steps) is = tt
ip_addr_key (bytes bs) is = tt
ip_addr_key (ip_addr n) is = refl
ip_addr_key (array vs) is = tt
ip_addr_key (object ms) is = tt

-- a whole number that fits i64, and one that doesn't
abbrev leaf_as : Kind × Value → Option (List ℕ)
leaf_as p = option_map (λ payload. type_code p.0 ++ payload) (value_bytes p.0 p.1)

number_leaf : (n : ℕ) → n < 2 ^ 64 → (b : Bool) → nat_lt n (2 ^ 63) ≡ b → IfSome (leaf_as (if b then (i64_kind, i64 (pos n)) else (u64_kind, u64 n))) (λ leaf. is_leaf leaf ≡ true)
number_leaf n fits true e = refl
number_leaf n fits false e = large_keyed n fits e

bool_leaf : (b : Bool) → IfSome (leaf_bytes (bool b)) (λ leaf. is_leaf leaf ≡ true)
bool_leaf true = refl
bool_leaf false = refl

leaf_keyed : (v : Value) → IsValue v → IfSome (leaf_bytes v) (λ leaf. is_leaf leaf ≡ true)
leaf_keyed null is = tt
leaf_keyed (str s) is = is_utf8-from_IsUtf8 s is
leaf_keyed (pre_tok_str s ts) is = tt
leaf_keyed (u64 n) is = number_leaf n is (nat_lt n (2 ^ 63)) refl
leaf_keyed (i64 z) is = refl
leaf_keyed (bool b) is = bool_leaf b
leaf_keyed (date z) is = second_keyed z is
leaf_keyed (facet steps) is = tt
leaf_keyed (bytes bs) is = tt
leaf_keyed (ip_addr n) is = tt
leaf_keyed (array vs) is = tt
leaf_keyed (object ms) is = tt

-- ---- tokens

abbrev AreTexts : List Token → Type 0
AreTexts ts = AllByRecursion (λ (t : Token). IsUtf8 t.text) ts

tokens_texts : (least : ℕ) (ts : List Token) → AreTokensFrom least ts → AreTexts ts
tokens_texts least [] are = tt
tokens_texts least (t ∷ ts) are = (are.1, tokens_texts t.position ts are.2)

kept_texts : (ts : List Token) → AreTokens ts → AreTexts (kept ts)
kept_texts ts are = all_filter (λ (t : Token). IsUtf8 t.text) (λ t. nat_le (length t.text) max_token_len) ts (tokens_texts 0 ts are)

positioned_texts : (gap start : ℕ) (tss : List (List Token)) → AllByRecursion AreTexts tss → AllByRecursion (λ (p : List ℕ × ℕ). IsUtf8 p.0) (places_from gap start tss)
positioned_texts gap start [] all = tt
positioned_texts gap start (ts ∷ tss) all =
    all_append (λ (p : List ℕ × ℕ). IsUtf8 p.0) (map (λ (t : Token). (t.text, start + t.position)) ts) (places_from gap (next_start gap start ts) tss)
    (all_map (λ (t : Token). IsUtf8 t.text) (λ (p : List ℕ × ℕ). IsUtf8 p.0) (λ (t : Token). (t.text, start + t.position)) (λ t text. text) ts all.0)
    (positioned_texts gap (next_start gap start ts) tss all.1)

-- a text at a leaf is a text
text_of_leaf : (v : Value) → IsValue v → IfSome (leaf_text v) IsUtf8
text_of_leaf null is = tt
text_of_leaf (str s) is = is
text_of_leaf (pre_tok_str s ts) is = tt
text_of_leaf (u64 n) is = tt
text_of_leaf (i64 z) is = tt
text_of_leaf (bool b) is = tt
text_of_leaf (date z) is = tt
text_of_leaf (facet steps) is = tt
text_of_leaf (bytes bs) is = tt
text_of_leaf (ip_addr n) is = tt
text_of_leaf (array vs) is = tt
text_of_leaf (object ms) is = tt

-- ---- terms

-- a term of a field of a schema, with the bytes of a value of it
pub record IsKeyedTerm (schema : Schema) (t : List ℕ) : Type 0 where
  pub field : ℕ
  pub entry : Entry
  pub key : List ℕ
  pub keyed : is_key entry.kind key ≡ true
  pub whole : t ≡ term_bytes field entry.kind key

abbrev pub AreKeyedTerms : Schema → List Placed → Type 0
AreKeyedTerms schema ps = AllByRecursion (λ (p : Placed). IsKeyedTerm schema p.0) ps

no_term : (f : ℕ) (kind : Kind) (key : List ℕ) → [] ≡ term_bytes f kind key → ⊥
no_term f kind key same = (let none : None ≡ Some kind = ap kind_in same ∙ kind_there f kind key in cc)

same_term : (f g : ℕ) (a b : Kind) (x y : List ℕ) → term_bytes f a x ≡ term_bytes g b y → is_key a x ≡ is_key b y
same_term f g a b x y same =
    let kinds : Some a ≡ Some b = sym (kind_there f a x) ∙ ap kind_in same ∙ kind_there g b y in
    let kind : a ≡ b = cc in
    ap₂ is_key kind (sym (key_there f a x) ∙ ap payload_of same ∙ key_there g b y)

module _ (schema : Schema) (analyze : Analyzer) (analyzes : IsAnalyzer analyze) where
  token_texts : (name : List ℕ) (v : Value) → IsValue v → IfSome (tokens_of analyze name v) AreTexts
  token_texts name null is = tt
  token_texts name (str s) is = kept_texts (analyze name s) (analyzes name s is)
  token_texts name (pre_tok_str s ts) is = kept_texts ts is.1
  token_texts name (u64 n) is = tt
  token_texts name (i64 z) is = tt
  token_texts name (bool b) is = tt
  token_texts name (date z) is = tt
  token_texts name (facet steps) is = tt
  token_texts name (bytes bs) is = tt
  token_texts name (ip_addr n) is = tt
  token_texts name (array vs) is = tt
  token_texts name (object ms) is = tt

  module _ (field : ℕ) (e : Entry) where
    made : (kind : Kind) → e.kind ≡ kind → (key : List ℕ) → is_key kind key ≡ true → IsKeyedTerm schema (term_bytes field kind key)
    made kind same key keyed = record { field = field; entry = e; key = key; keyed = ap (λ k. is_key k key) same ∙ keyed; whole = ap (λ k. term_bytes field k key) (sym same) }

    texts_keyed : e.kind ≡ text_kind → (values : List Value) → AllByRecursion IsValue values → AreKeyedTerms schema (text_terms analyze field e values)
    texts_keyed same values are =
        all_map (λ (p : List ℕ × ℕ). IsUtf8 p.0) (λ (p : Placed). IsKeyedTerm schema p.0) (λ p. (term_bytes field text_kind p.0, p.1)) (λ p text. made text_kind same p.0 (is_utf8-from_IsUtf8 p.0 text)) (places (gap_of e) (filter_map (tokens_of analyze e.tokenizer) values))
        (positioned_texts (gap_of e) 0 (filter_map (tokens_of analyze e.tokenizer) values) (all_filter_map IsValue AreTexts (tokens_of analyze e.tokenizer) (token_texts e.tokenizer) values are))

    values_keyed : (kind : Kind) → e.kind ≡ kind → ((v : Value) → IsValue v → HasKey kind v) → (values : List Value) → AllByRecursion IsValue values → AreKeyedTerms schema (value_terms field kind values)
    values_keyed kind same has values are =
        all_map (λ key. is_key kind key ≡ true) (λ (p : Placed). IsKeyedTerm schema p.0) (λ payload. (term_bytes field kind payload, 0)) (λ key keyed. made kind same key keyed) (filter_map (value_bytes kind) values)
        (all_filter_map IsValue (λ key. is_key kind key ≡ true) (value_bytes kind) has values are)

    prefix_text : (steps : List (List ℕ)) → AllByRecursion IsStep steps → (n : ℕ) → AllByRecursion IsUtf8 (take n steps)
    prefix_text steps all zero = tt
    prefix_text [] all (suc n) = tt
    prefix_text (s ∷ steps) all (suc n) = (all.0.0, prefix_text steps all.1 n)

    all_numbers : (P : ℕ → Type 0) → ((n : ℕ) → P n) → (ns : List ℕ) → AllByRecursion P ns
    all_numbers P each [] = tt
    all_numbers P each (n ∷ ns) = (each n, all_numbers P each ns)

    facet_keyed : e.kind ≡ facet_kind → (v : Value) → IsValue v → AreKeyedTerms schema (facet_terms field v)
    facet_keyed same null is = tt
    facet_keyed same (str s) is = tt
    facet_keyed same (pre_tok_str s ts) is = tt
    facet_keyed same (u64 n) is = tt
    facet_keyed same (i64 z) is = tt
    facet_keyed same (bool b) is = tt
    facet_keyed same (date z) is = tt
    facet_keyed same (facet steps) is = all_map (λ (n : ℕ). ⊤) (λ (p : Placed). IsKeyedTerm schema p.0) (λ n. (term_bytes field facet_kind (encoded (take n steps)), 0)) (λ n any. made facet_kind same (encoded (take n steps)) (is_utf8-from_IsUtf8 (encoded (take n steps)) (join_text 0 step_end (take n steps) (prefix_text steps is.1 n)))) (range_with_len 0 (length steps + 1)) (all_numbers (λ n. ⊤) (λ n. tt) (range_with_len 0 (length steps + 1)))
    facet_keyed same (bytes bs) is = tt
    facet_keyed same (ip_addr n) is = tt
    facet_keyed same (array vs) is = tt
    facet_keyed same (object ms) is = tt

    path_keyed : e.kind ≡ json_kind → (ls : List (List ℕ × Value)) → AllByRecursion IsGoodLeaf ls → (path : List ℕ) → IsPath path → AreKeyedTerms schema (path_terms analyze field e ls path)
    path_keyed same ls good path is =
        let texts : AllByRecursion IsUtf8 (texts_at path ls) = all_filter_map IsGoodLeaf IsUtf8 (λ (l : List ℕ × Value). leaf_text l.1) (λ l leaf. text_of_leaf l.1 leaf.1) (filter (λ (l : List ℕ × Value). bytes_eq l.0 path) ls) (all_filter IsGoodLeaf (λ (l : List ℕ × Value). bytes_eq l.0 path) ls good) in
        let tokens : AllByRecursion AreTexts (map (λ s. kept (analyze e.tokenizer s)) (texts_at path ls)) = all_map IsUtf8 AreTexts (λ s. kept (analyze e.tokenizer s)) (λ s text. kept_texts (analyze e.tokenizer s) (analyzes e.tokenizer s text)) (texts_at path ls) texts in
        all_map (λ (p : List ℕ × ℕ). IsUtf8 p.0) (λ (p : Placed). IsKeyedTerm schema p.0) (λ p. (json_term field path (type_code text_kind ++ p.0), p.1)) (λ p text. made json_kind same (path ++ (0 ∷ type_code text_kind ++ p.0)) (json_keyed path (type_code text_kind ++ p.0) is (is_utf8-from_IsUtf8 p.0 text))) (places 1 (map (λ s. kept (analyze e.tokenizer s)) (texts_at path ls)))
        (positioned_texts 1 0 (map (λ s. kept (analyze e.tokenizer s)) (texts_at path ls)) tokens)

    other_keyed : e.kind ≡ json_kind → (l : List ℕ × Value) → IsGoodLeaf l → IfSome (leaf_term field l) (λ (p : Placed). IsKeyedTerm schema p.0)
    other_keyed same l good = go (is_text_leaf l.1) (leaf_bytes l.1) (leaf_keyed l.1 good.1)
      where
        go : (b : Bool) (o : Option (List ℕ)) → IfSome o (λ leaf. is_leaf leaf ≡ true) → IfSome (if b then None else option_map (λ leaf. (json_term field l.0 leaf, 0)) o) (λ (p : Placed). IsKeyedTerm schema p.0)
        go true o is = tt
        go false None is = tt
        go false (Some leaf) is = made json_kind same (l.0 ++ (0 ∷ leaf)) (json_keyed l.0 leaf good.0 is)

    leaves_keyed : e.kind ≡ json_kind → (ls : List (List ℕ × Value)) → AllByRecursion IsGoodLeaf ls → AreKeyedTerms schema (leaves_terms analyze field e ls)
    leaves_keyed same ls good =
        all_append (λ (p : Placed). IsKeyedTerm schema p.0) (flat_map (path_terms analyze field e ls) (text_paths ls)) (filter_map (leaf_term field) ls)
        (all_flat_map IsPath (λ (p : Placed). IsKeyedTerm schema p.0) (path_terms analyze field e ls) (path_keyed same ls good) (text_paths ls)
        (all_once IsPath (map (λ (l : List ℕ × Value). l.0) (filter (λ (l : List ℕ × Value). is_text_leaf l.1) ls)) (all_map IsGoodLeaf IsPath (λ (l : List ℕ × Value). l.0) (λ l leaf. leaf.0) (filter (λ (l : List ℕ × Value). is_text_leaf l.1) ls) (all_filter IsGoodLeaf (λ (l : List ℕ × Value). is_text_leaf l.1) ls good))))
        (all_filter_map IsGoodLeaf (λ (p : Placed). IsKeyedTerm schema p.0) (leaf_term field) (other_keyed same) ls good)

    objects_keyed : e.kind ≡ json_kind → (values : List Value) → AllByRecursion IsValue values → AreKeyedTerms schema (json_terms analyze field e values)
    objects_keyed same values are = leaves_keyed same (flat_map (leaves e.expand_dots []) values) (all_flat_map IsValue IsGoodLeaf (leaves e.expand_dots []) (λ v is. leaves_good e.expand_dots [] v tt is) values are)

    kind_keyed : (kind : Kind) → e.kind ≡ kind → (values : List Value) → AllByRecursion IsValue values → AreKeyedTerms schema (kind_terms kind analyze field e values)
    kind_keyed text_kind same values are = texts_keyed same values are
    kind_keyed u64_kind same values are = values_keyed u64_kind same u64_key values are
    kind_keyed i64_kind same values are = values_keyed i64_kind same i64_key values are
    kind_keyed bool_kind same values are = values_keyed bool_kind same bool_key values are
    kind_keyed date_kind same values are = values_keyed date_kind same date_key values are
    kind_keyed facet_kind same values are = all_flat_map IsValue (λ (p : Placed). IsKeyedTerm schema p.0) (facet_terms field) (facet_keyed same) values are
    kind_keyed bytes_kind same values are = values_keyed bytes_kind same bytes_key values are
    kind_keyed json_kind same values are = objects_keyed same values are
    kind_keyed ip_addr_kind same values are = values_keyed ip_addr_kind same ip_addr_key values are

  values_are : (field : ℕ) (doc : Document) → IsDocument doc → AllByRecursion IsValue (values_of field doc)
  values_are field doc is = all_map (λ (p : ℕ × Value). (p.0 < 2 ^ 32) × IsValue p.1) IsValue (λ (p : ℕ × Value). p.1) (λ p value. value.1) (filter (λ (p : ℕ × Value). p.0 == field) doc) (all_filter (λ (p : ℕ × Value). (p.0 < 2 ^ 32) × IsValue p.1) (λ (p : ℕ × Value). p.0 == field) doc is)

  field_keyed : (doc : Document) → IsDocument doc → (p : ℕ × Entry) → AreKeyedTerms schema (field_terms analyze doc p)
  field_keyed doc is p = go (is_indexed p.1)
    where
      go : (b : Bool) → AreKeyedTerms schema (if b then kind_terms p.1.kind analyze p.0 p.1 (values_of p.0 doc) else [])
      go true = kind_keyed p.0 p.1 p.1.kind refl (values_of p.0 doc) (values_are p.0 doc is)
      go false = tt

  entries_any : (ps : List (ℕ × Entry)) → AllByRecursion (λ (p : ℕ × Entry). ⊤) ps
  entries_any [] = tt
  entries_any (p ∷ ps) = (tt, entries_any ps)

  terms_keyed : (doc : Document) → IsDocument doc → AreKeyedTerms schema (terms_of schema analyze doc)
  terms_keyed doc is = all_flat_map (λ (p : ℕ × Entry). ⊤) (λ (p : Placed). IsKeyedTerm schema p.0) (field_terms analyze doc) (λ p any. field_keyed doc is p) (enumerate_from 0 schema) (entries_any (enumerate_from 0 schema))

  -- ---- of postings

  term_among : (t : List ℕ) (ps : List Placed) → AreKeyedTerms schema ps → list_any (λ (p : Placed). bytes_eq p.0 t) ps ≡ true → IsKeyedTerm schema t
  term_among t [] are held = absurd (true≢false (sym held))
  term_among t (p ∷ ps) are held = go (bytes_eq p.0 t) refl held (term_among t ps are.1)
    where
      go : (b : Bool) → bytes_eq p.0 t ≡ b → (b || list_any (λ (q : Placed). bytes_eq q.0 t) ps) ≡ true → (list_any (λ (q : Placed). bytes_eq q.0 t) ps ≡ true → IsKeyedTerm schema t) → IsKeyedTerm schema t
      go true same held more = subst (IsKeyedTerm schema) ((bytes_eq-Decides p.0 t).0 same) are.0
      go false other held more = more held

  posting_keyed : (t : List ℕ) (id : ℕ) (docs : List Document) → AllByRecursion IsDocument docs → 0 < length (filter_map (posting_of schema analyze t) (enumerate_from id docs)) → IsKeyedTerm schema t
  posting_keyed t id [] are some = absurd (omega (arith, some))
  posting_keyed t id (doc ∷ docs) are some = go (holds schema analyze t doc) refl some (posting_keyed t (id + 1) docs are.1)
    where
      rest : List Posting
      rest = filter_map (posting_of schema analyze t) (enumerate_from (id + 1) docs)

      go : (b : Bool) → holds schema analyze t doc ≡ b → 0 < length (cons_option (if b then Some (record { doc = id; count = count_of schema analyze t doc; positions = positions_of schema analyze t doc }) else None) rest) → (0 < length rest → IsKeyedTerm schema t) → IsKeyedTerm schema t
      go true here some more = term_among t (terms_of schema analyze doc) (terms_keyed doc are.0) here
      go false other some more = more some

  -- ---- of the fields of a segment

  pub indexed_keyed : (docs : List Document) → AllByRecursion (IsTaken schema) docs → (num_docs : ℕ) (norms : List (ℕ × List ℕ)) (fields : List IndexedField) → AllByRecursion (IsField schema num_docs norms) fields → AreIndexed schema analyze docs fields → AreKeyed schema fields
  indexed_keyed docs taken num_docs norms fields each indexed = go fields each indexed.each_field
    where
      documents : (ds : List Document) → AllByRecursion (IsTaken schema) ds → AllByRecursion IsDocument ds
      documents [] all = tt
      documents (d ∷ ds) all = (all.0.0, documents ds all.1)

      keyed : (f : ℕ) (key : List ℕ) → IsKeyedTerm schema (term_of_key schema f key) → is_key_of schema f key ≡ true
      keyed f key is = of (slice_get schema f) is.whole
        where
          of : (o : Option Entry) → option_map_or (λ (e : Entry). term_bytes f e.kind key) o [] ≡ term_bytes is.field is.entry.kind is.key → option_map_or (λ (e : Entry). is_key e.kind key) o false ≡ true
          of None whole = absurd (no_term is.field is.entry.kind is.key whole)
          of (Some e) whole = same_term f is.field e.kind is.entry.kind key is.key whole ∙ is.keyed

      terms : (f : ℕ) (ts : List IndexedTerm) → AllByRecursion (λ (t : IndexedTerm). IsTerm (option_of_term schema (term_of_key schema f t.key)) num_docs (field_ids norms f) t) ts → AllByRecursion (λ (t : IndexedTerm). t.postings ≡ postings schema analyze (term_of_key schema f t.key) docs) ts → AllByRecursion (λ (t : IndexedTerm). is_key_of schema f t.key ≡ true) ts
      terms f [] are have = tt
      terms f (t ∷ ts) are have = (
        keyed f t.key (posting_keyed (term_of_key schema f t.key) 0 docs (documents docs taken) (subst (λ (ps : List Posting). 0 < length ps) have.0 are.0.has_postings)),
        terms f ts are.1 have.1,
      )

      go : (fs : List IndexedField) → AllByRecursion (IsField schema num_docs norms) fs → AllByRecursion (λ (f : IndexedField). AllByRecursion (λ (t : IndexedTerm). t.postings ≡ postings schema analyze (term_of_key schema f.field t.key) docs) f.terms) fs → AreKeyed schema fs
      go [] are have = tt
      go (f ∷ fs) are have = (terms f.field f.terms are.0.each_term have.0, go fs are.1 have.1)
