-- A field's terms in two maps, seen as one list: those with short keys, and then those with others.
use Rattle.std.proofs.Common.{[], Bor, ◌&&◌, ◌++◌, ◌<◌, ◌^◌, ◌≡◌, ◌≤◌, ◌∙◌, ◌∷◌, Bool, IfOk, IsSome, List, None, Ok, Option, Result, Some, Vec, ap, ap₂, arith, bytes_eq, cond, false, filter, length, map, nat_eq, nat_le, nat_lt, refl, subst, sym, true, ℕ}
use Rattle.std.specs.Cmp.Lexicographic.{pointwise}
use Rattle.std.specs.HashMap.{HashMap, PutsEntry, UpdatesBy, get_by, keys}
use Rattle.std.specs.Int.{to_be_bytes, w128}
use Rattle.std.specs.List.{AllByRecursion, IsDistinct}
use Rattle.std.specs.Map.{keys_of, lookup, update}
use Rattle.std.specs.declared.alloc.Global.{Global}
use Rattle.std.proofs.lemmas.Bool.{true≢false}
use Rattle.std.proofs.lemmas.Bool.Decides.{nat_tests}
use Rattle.std.proofs.lemmas.List.Elements.{All-from_recursion, recursion_from_All}
use Rattle.std.proofs.lemmas.List.Sorted.{All-permutation, IsPermutation-map}
use Rattle.std.proofs.lemmas.Map.Keys.{IsDistinct-cons, IsDistinct-head, IsDistinct-tail}
use Rattle.std.proofs.lemmas.Slice.Eq.{bytes_eq-Decides}
use Rattle.definitions.proofs.Lists.{nat_same, both_true as and_both}
use Rattle.postings_writer.specs.Fields.{AreShortTerms, Terms}
use Rattle.postings_writer.specs.PackedKeys.{AreOfKey, IsMasked, IsPacked, IsShort, key_of, masked, max_short, packed, unmasked, unpacked}
use Rattle.postings_writer.specs.declared.recorder.Recorder.{Recorder}
use Rattle.postings_writer.proofs.KeptRecorders.{lookup_items, updates_bytes}
use Rattle.postings_writer.proofs.PackedKeys.{packed_below, unmasked_masked, unpacked_masked, unpacked_packed}
use Rattle.terms.proofs.TermParts.{same_tests as same_truth}

-- ---- two lists

abbrev both : {X : Type 0} → Option X → Option X → Option X
both (Some x) other = Some x
both None other = other

both_none : {X : Type 0} (o : Option X) → both o None ≡ o
both_none (Some x) = refl
both_none None = refl

lookup_append : {K X : Type 0} (test : K → Bool) (xs ys : List (K × X)) → lookup test (xs ++ ys) ≡ both (lookup test xs) (lookup test ys)
lookup_append test [] ys = refl
lookup_append {K} {X} test (x ∷ xs) ys = go (test x.0) (lookup_append test xs ys)
  where
    go : (b : Bool) → lookup test (xs ++ ys) ≡ both (lookup test xs) (lookup test ys) → cond b (Some x.1) (lookup test (xs ++ ys)) ≡ both (cond b (Some x.1) (lookup test xs)) (lookup test ys)
    go true later = refl
    go false later = later

-- an update of the first list is one of both
pub update_front : {X : Type 0} (key : List ℕ) (x : X) (xs news ys : List (List ℕ × X)) → ((q : List ℕ) → lookup (bytes_eq q) news ≡ update bytes_eq (λ p. lookup (bytes_eq p) xs) key (Some x) q) → (q : List ℕ) → lookup (bytes_eq q) (news ++ ys) ≡ update bytes_eq (λ p. lookup (bytes_eq p) (xs ++ ys)) key (Some x) q
update_front {X} key x xs news ys put q =
    lookup_append (bytes_eq q) news ys ∙ ap (λ o. both o (lookup (bytes_eq q) ys)) (put q) ∙ go (bytes_eq key q) ∙ ap (λ o. cond (bytes_eq key q) (Some x) o) (sym (lookup_append (bytes_eq q) xs ys))
  where
    go : (b : Bool) → both (cond b (Some x) (lookup (bytes_eq q) xs)) (lookup (bytes_eq q) ys) ≡ cond b (Some x) (both (lookup (bytes_eq q) xs) (lookup (bytes_eq q) ys))
    go true = refl
    go false = refl

-- and so is one of the second, at a key that the first lacks
pub update_back : {X : Type 0} (key : List ℕ) (x : X) (xs ys news : List (List ℕ × X)) → lookup (bytes_eq key) xs ≡ None → ((q : List ℕ) → lookup (bytes_eq q) news ≡ update bytes_eq (λ p. lookup (bytes_eq p) ys) key (Some x) q) → (q : List ℕ) → lookup (bytes_eq q) (xs ++ news) ≡ update bytes_eq (λ p. lookup (bytes_eq p) (xs ++ ys)) key (Some x) q
update_back {X} key x xs ys news lacks put q =
    lookup_append (bytes_eq q) xs news ∙ ap (both (lookup (bytes_eq q) xs)) (put q) ∙ go (bytes_eq key q) refl ∙ ap (λ o. cond (bytes_eq key q) (Some x) o) (sym (lookup_append (bytes_eq q) xs ys))
  where
    go : (b : Bool) → bytes_eq key q ≡ b → both (lookup (bytes_eq q) xs) (cond b (Some x) (lookup (bytes_eq q) ys)) ≡ cond b (Some x) (both (lookup (bytes_eq q) xs) (lookup (bytes_eq q) ys))
    go true same = ap (λ o. both o (Some x)) (subst (λ k. lookup (bytes_eq k) xs ≡ None) ((bytes_eq-Decides key q).0 same) lacks)
    go false other = refl

pub lookup_front : {X : Type 0} (key : List ℕ) (xs ys : List (List ℕ × X)) → lookup (bytes_eq key) ys ≡ None → lookup (bytes_eq key) (xs ++ ys) ≡ lookup (bytes_eq key) xs
lookup_front key xs ys lacks = lookup_append (bytes_eq key) xs ys ∙ ap (both (lookup (bytes_eq key) xs)) lacks ∙ both_none (lookup (bytes_eq key) xs)

pub lookup_back : {X : Type 0} (key : List ℕ) (xs ys : List (List ℕ × X)) → lookup (bytes_eq key) xs ≡ None → lookup (bytes_eq key) (xs ++ ys) ≡ lookup (bytes_eq key) ys
lookup_back key xs ys lacks = lookup_append (bytes_eq key) xs ys ∙ ap (λ o. both o (lookup (bytes_eq key) ys)) lacks

-- ---- entries by numbers

unmasked_is : (mask n : ℕ) (is : IsMasked mask n) → unmasked mask n ≡ is.number
unmasked_is mask n is =
    let k = is.is_packed in
    ap (unmasked mask) is.masked_is ∙ unmasked_masked mask is.number is.fits (subst (λ m. m < 2 ^ 128) (sym k.packed_is) (packed_below k.key k.is_short))

-- a key's number with the mask
masked_is : (mask n : ℕ) (is : IsMasked mask n) → n ≡ masked mask (packed is.is_packed.key)
masked_is mask n is = is.masked_is ∙ ap (masked mask) is.is_packed.packed_is

unpacked_is : (mask n : ℕ) (is : IsMasked mask n) → unpacked mask n ≡ is.is_packed.key
unpacked_is mask n is = ap (unpacked mask) (masked_is mask n is) ∙ unpacked_masked mask is.is_packed.key is.fits is.is_packed.is_short

same_nat : (a b : ℕ) → a ≡ b → nat_eq a b ≡ true
same_nat a b is = grind (arith, nat_tests)

-- a number is a key's where its key is that
same_key : (mask : ℕ) (key : List ℕ) (n : ℕ) → IsShort key → IsMasked mask n → nat_eq (masked mask (packed key)) n ≡ bytes_eq key (unpacked mask n)
same_key mask key n short is = same_truth (nat_eq (masked mask (packed key)) n) (bytes_eq key (unpacked mask n))
    (λ one. (bytes_eq-Decides key (unpacked mask n)).1 (sym (unpacked_masked mask key is.fits short) ∙ ap (unpacked mask) (nat_same (masked mask (packed key)) n one)))
    (λ one. same_nat (masked mask (packed key)) n (ap (λ k. masked mask (packed k)) ((bytes_eq-Decides key (unpacked mask n)).0 one ∙ unpacked_is mask n is) ∙ sym (masked_is mask n is)))

pub lookup_number : {X : Type 0} (mask : ℕ) (key : List ℕ) (es : List (ℕ × X)) → IsShort key → AllByRecursion (IsMasked mask) (keys_of es) → lookup (nat_eq (masked mask (packed key))) es ≡ lookup (bytes_eq key) (map (λ e. (unpacked mask e.0, e.1)) es)
lookup_number mask key [] short all = refl
lookup_number mask key (e ∷ es) short all = ap₂ (λ b o. cond b (Some e.1) o) (same_key mask key e.0 short all.0) (lookup_number mask key es short all.1)

-- ---- keys that are short, and others

abbrev are_small : List ℕ → Bool
are_small [] = true
are_small (b ∷ bs) = nat_lt b 256 && are_small bs

small_bytes : (bs : List ℕ) → are_small bs ≡ true → AllByRecursion (λ b. b < 256) bs
small_bytes [] is = tt
small_bytes (b ∷ bs) is = (let parts = and_both (nat_lt b 256) (are_small bs) is in (below b parts.0, small_bytes bs parts.1))
  where
    below : (n : ℕ) → nat_lt n 256 ≡ true → n < 256
    below n one = grind (arith, nat_tests)

bytes_small : (bs : List ℕ) → AllByRecursion (λ b. b < 256) bs → are_small bs ≡ true
bytes_small [] all = refl
bytes_small (b ∷ bs) all = (let one : nat_lt b 256 ≡ true = (let small = all.0 in grind (arith, nat_tests)) in ap₂ (λ x y. x && y) one (bytes_small bs all.1))

abbrev is_short : List ℕ → Bool
is_short key = nat_le (length key) 15 && are_small key

short_is : (key : List ℕ) → is_short key ≡ true → IsShort key
short_is key is = (let parts = and_both (nat_le (length key) 15) (are_small key) is in record { bytes = small_bytes key parts.1; short = (let few = parts.0 in grind (arith, nat_tests)) })

is_short_key : (key : List ℕ) → IsShort key → is_short key ≡ true
is_short_key key short = (let few : length key ≤ 15 = short.short in let one : nat_le (length key) 15 ≡ true = grind (arith, nat_tests) in ap₂ (λ x y. x && y) one (bytes_small key short.bytes))

-- what isn't a short key is none of those of numbers
not_short : (mask : ℕ) (q : List ℕ) (n : ℕ) → is_short q ≡ false → IsMasked mask n → bytes_eq q (unpacked mask n) ≡ false
not_short mask q n isnt is = go (bytes_eq q (unpacked mask n)) refl
  where
    go : (b : Bool) → bytes_eq q (unpacked mask n) ≡ b → b ≡ false
    go true e = (let k = is.is_packed in let same : q ≡ k.key = (bytes_eq-Decides q (unpacked mask n)).0 e ∙ unpacked_is mask n is in absurd (true≢false (sym (ap is_short same ∙ is_short_key k.key k.is_short) ∙ isnt)))
    go false e = refl

none_of_numbers : {X : Type 0} (mask : ℕ) (q : List ℕ) (es : List (ℕ × X)) → is_short q ≡ false → AllByRecursion (IsMasked mask) (keys_of es) → lookup (bytes_eq q) (map (λ e. (unpacked mask e.0, e.1)) es) ≡ None
none_of_numbers mask q [] isnt all = refl
none_of_numbers mask q (e ∷ es) isnt all = ap (λ b. cond b (Some e.1) (lookup (bytes_eq q) (map (λ x. (unpacked mask x.0, x.1)) es))) (not_short mask q e.0 isnt all.0) ∙ none_of_numbers mask q es isnt all.1

long_isnt : (key : List ℕ) → max_short < length key → is_short key ≡ false
long_isnt key long = (let many : 15 < length key = long in let one : nat_le (length key) 15 ≡ false = grind (arith, nat_tests) in ap (λ b. b && are_small key) one)

pub long_none : {X : Type 0} (mask : ℕ) (key : List ℕ) (es : List (ℕ × X)) → max_short < length key → AllByRecursion (IsMasked mask) (keys_of es) → lookup (bytes_eq key) (map (λ e. (unpacked mask e.0, e.1)) es) ≡ None
long_none mask key es long all = none_of_numbers mask key es (long_isnt key long) all

pub short_none : {X : Type 0} (key : List ℕ) (es : List (Vec ℕ Global × X)) → length key ≤ 15 → AllByRecursion (λ k. max_short < length k.items) (keys_of es) → lookup (bytes_eq key) (map (λ e. (e.0.items, e.1)) es) ≡ None
short_none key [] few all = refl
short_none {X} key (e ∷ es) few all = ap (λ b. cond b (Some e.1) (lookup (bytes_eq key) (map (λ x. (x.0.items, x.1)) es))) (apart (bytes_eq key e.0.items) refl) ∙ short_none key es few all.1
  where
    apart : (b : Bool) → bytes_eq key e.0.items ≡ b → b ≡ false
    apart true same = (let is : key ≡ e.0.items = (bytes_eq-Decides key e.0.items).0 same in let lengths : length key ≡ length e.0.items = ap length is in let many : 15 < length e.0.items = all.0 in absurd (omega (arith, lengths, many, few)))
    apart false other = refl

-- an update of a map of numbers, by keys
pub updates_numbers : {X S : Type 0} (mask : ℕ) (key : List ℕ) (old new : HashMap ℕ X S) (value : Option X) → mask < 2 ^ 128 → IsShort key → AllByRecursion (IsMasked mask) (keys_of old.entries) → AllByRecursion (IsMasked mask) (keys_of new.entries) → UpdatesBy nat_eq (nat_eq (masked mask (packed key))) old new value → (q : List ℕ) → lookup (bytes_eq q) (map (λ e. (unpacked mask e.0, e.1)) new.entries) ≡ update bytes_eq (λ p. lookup (bytes_eq p) (map (λ e. (unpacked mask e.0, e.1)) old.entries)) key value q
updates_numbers mask key old new value fits short olds news updated q = go (is_short q) refl
  where
    packed_is : (bytes : List ℕ) → IsShort bytes → IsMasked mask (masked mask (packed bytes))
    packed_is bytes are = record { fits = fits; number = packed bytes; is_packed = record { key = bytes; is_short = are; packed_is = refl }; masked_is = refl }

    go : (b : Bool) → is_short q ≡ b → lookup (bytes_eq q) (map (λ e. (unpacked mask e.0, e.1)) new.entries) ≡ cond (bytes_eq key q) value (lookup (bytes_eq q) (map (λ e. (unpacked mask e.0, e.1)) old.entries))
    go true e =
        let are = short_is q e in
        let n = masked mask (packed q) in
        let tests : nat_eq (masked mask (packed key)) n ≡ bytes_eq key q = same_key mask key n short (packed_is q are) ∙ ap (bytes_eq key) (unpacked_masked mask q fits are) in
        sym (lookup_number mask q new.entries are news) ∙ updated.0 n ∙ ap₂ (λ b o. cond b value o) tests (lookup_number mask q old.entries are olds)
    go false e =
        none_of_numbers mask q new.entries e news ∙ sym (ap (λ b. cond b value (lookup (bytes_eq q) (map (λ x. (unpacked mask x.0, x.1)) old.entries))) (other (bytes_eq key q) refl) ∙ none_of_numbers mask q old.entries e olds)
      where
        other : (b : Bool) → bytes_eq key q ≡ b → b ≡ false
        other true same = absurd (true≢false (sym (ap is_short (sym ((bytes_eq-Decides key q).0 same)) ∙ is_short_key key short) ∙ e))
        other false apart = refl

-- ---- what every key has

-- after an entry is put
pub keys_put : {K X S : Type 0} (P : K → Type 0) (eq : K → K → Bool) (old new : HashMap K X S) (key : K) (x : X) (o : Option X) → PutsEntry eq old new key x o → (IsSome o → keys new ≡ keys old) → AllByRecursion P (keys_of old.entries) → P key → AllByRecursion P (keys_of new.entries)
keys_put {K} {X} P eq old new key x None puts stay all here =
    recursion_from_All P (keys_of new.entries)
    (All-permutation P (key ∷ keys_of old.entries) (keys_of new.entries)
    (IsPermutation-map (λ (e : K × X). e.0) ((key, x) ∷ old.entries) new.entries puts)
    (All-from_recursion P (key ∷ keys_of old.entries) (here, all)))
keys_put P eq old new key x (Some y) puts stay all here = subst (AllByRecursion P) (sym (stay refl)) all

-- ---- all terms

abbrev numbers : ℕ → List (ℕ × Recorder) → Terms
numbers mask es = map (λ e. (unpacked mask e.0, e.1)) es

abbrev items : List (Vec ℕ Global × Recorder) → Terms
items es = map (λ e. (e.0.items, e.1)) es

abbrev arrays : ℕ → List (ℕ × Recorder) → List (List ℕ × Recorder)
arrays mask es = map (λ e. (to_be_bytes w128 (unmasked mask e.0), e.1)) es

abbrev read : List (List ℕ × Recorder) → Terms
read ts = map (λ t. (key_of t.0, t.1)) ts

arrays_read : (mask : ℕ) (es : List (ℕ × Recorder)) → read (arrays mask es) ≡ numbers mask es
arrays_read mask [] = refl
arrays_read mask (e ∷ es) = ap (λ ts. (unpacked mask e.0, e.1) ∷ ts) (arrays_read mask es)

of_keys : (mask : ℕ) (es : List (ℕ × Recorder)) → AllByRecursion (IsMasked mask) (keys_of es) → AllByRecursion (λ t. AreOfKey t.0) (arrays mask es)
of_keys mask [] all = tt
of_keys mask (e ∷ es) all = ((unmasked mask e.0, subst IsPacked (sym (unmasked_is mask e.0 all.0)) all.0.is_packed, refl), of_keys mask es all.1)

long_items : (es : List (Vec ℕ Global × Recorder)) → AllByRecursion (λ k. max_short < length k.items) (keys_of es) → AllByRecursion (λ t. max_short < length t.0) (items es)
long_items [] all = tt
long_items (e ∷ es) all = (all.0, long_items es all.1)

numbers_apart : (mask : ℕ) (es : List (ℕ × Recorder)) → AllByRecursion (IsMasked mask) (keys_of es) → IsDistinct nat_eq (keys_of es) → IsDistinct bytes_eq (keys_of (numbers mask es))
unfolding IsDistinct
numbers_apart mask [] all apart = tt
numbers_apart mask (e ∷ es) all apart =
    IsDistinct-cons bytes_eq (unpacked mask e.0) (keys_of (numbers mask es))
    (go es all.1 (IsDistinct-head nat_eq e.0 (keys_of es) apart))
    (numbers_apart mask es all.1 (IsDistinct-tail nat_eq e.0 (keys_of es) apart))
  where
    differ : (n : ℕ) → IsMasked mask n → nat_eq e.0 n ≡ false → bytes_eq (unpacked mask e.0) (unpacked mask n) ≡ false
    differ n is other =
        let first : IsPacked all.0.number = all.0.is_packed in
        let same : nat_eq (masked mask (packed first.key)) n ≡ bytes_eq first.key (unpacked mask n) = same_key mask first.key n first.is_short is in
        ap (λ k. bytes_eq k (unpacked mask n)) (unpacked_is mask e.0 all.0) ∙ sym same ∙ ap (λ m. nat_eq m n) (sym (masked_is mask e.0 all.0)) ∙ other

    go : (fs : List (ℕ × Recorder)) → AllByRecursion (IsMasked mask) (keys_of fs) → AllByRecursion (λ n. nat_eq e.0 n ≡ false) (keys_of fs) → AllByRecursion (λ k. bytes_eq (unpacked mask e.0) k ≡ false) (keys_of (numbers mask fs))
    go [] are others = tt
    go (f ∷ fs) are others = (differ f.0 are.0 others.0, go fs are.1 others.1)

pub are_short_terms : (mask : ℕ) (es : List (ℕ × Recorder)) (fs : List (Vec ℕ Global × Recorder)) (terms : Terms) → numbers mask es ++ items fs ≡ terms → AllByRecursion (IsMasked mask) (keys_of es) → AllByRecursion (λ k. max_short < length k.items) (keys_of fs) → IsDistinct nat_eq (keys_of es) → AreShortTerms terms (arrays mask es)
are_short_terms mask es fs terms view masks long apart = record {
  each_short = of_keys mask es masks;
  apart = subst (λ ts. IsDistinct bytes_eq (keys_of ts)) (sym (arrays_read mask es)) (numbers_apart mask es masks apart);
  others = items fs;
  terms_are = sym view ∙ ap (λ ts. ts ++ items fs) (sym (arrays_read mask es));
  long = long_items fs long;
}

-- those with other than short keys
abbrev others_of : Terms → Terms
others_of ts = filter (λ t. nat_lt 15 (length t.0)) ts

others_front : (xs ys : Terms) → AllByRecursion (λ t. length t.0 ≤ 15) xs → others_of (xs ++ ys) ≡ others_of ys
others_front [] ys all = refl
others_front (x ∷ xs) ys all = (let one : nat_lt 15 (length x.0) ≡ false = (let few = all.0 in grind (arith, nat_tests)) in ap (λ b. cond b (x ∷ others_of (xs ++ ys)) (others_of (xs ++ ys))) one ∙ others_front xs ys all.1)

others_all : (ys : Terms) → AllByRecursion (λ t. max_short < length t.0) ys → others_of ys ≡ ys
others_all [] all = refl
others_all (y ∷ ys) all = (let many : 15 < length y.0 = all.0 in let one : nat_lt 15 (length y.0) ≡ true = grind (arith, nat_tests) in ap (λ b. cond b (y ∷ others_of ys) (others_of ys)) one ∙ ap (λ ts. y ∷ ts) (others_all ys all.1))

few_numbers : (mask : ℕ) (es : List (ℕ × Recorder)) → AllByRecursion (IsMasked mask) (keys_of es) → AllByRecursion (λ t. length t.0 ≤ 15) (numbers mask es)
few_numbers mask [] all = tt
few_numbers mask (e ∷ es) all = (subst (λ (k : List ℕ). length k ≤ 15) (sym (unpacked_is mask e.0 all.0)) all.0.is_packed.is_short.short, few_numbers mask es all.1)

few_read : (ts : List (List ℕ × Recorder)) → AllByRecursion (λ t. AreOfKey t.0) ts → AllByRecursion (λ t. length t.0 ≤ 15) (read ts)
few_read [] all = tt
few_read (t ∷ ts) all = (few t.0 all.0, few_read ts all.1)
  where
    few : (bytes : List ℕ) → AreOfKey bytes → length (key_of bytes) ≤ 15
    few bytes (n, is, same) = subst (λ (bs : List ℕ). length (key_of bs) ≤ 15) (sym same) (subst (λ (k : List ℕ). length k ≤ 15) (sym (ap (λ m. key_of (to_be_bytes w128 m)) is.packed_is ∙ unpacked_packed is.key is.is_short)) is.is_short.short)

-- the others are those of the second map
pub others_are : (mask : ℕ) (es : List (ℕ × Recorder)) (fs : List (Vec ℕ Global × Recorder)) (terms : Terms) (short : List (List ℕ × Recorder)) → numbers mask es ++ items fs ≡ terms → AllByRecursion (IsMasked mask) (keys_of es) → AllByRecursion (λ k. max_short < length k.items) (keys_of fs) → (are : AreShortTerms terms short) → are.others ≡ items fs
others_are mask es fs terms short view masks long are =
    sym (others_all are.others are.long)
    ∙ sym (others_front (read short) are.others (few_read short are.each_short))
    ∙ ap others_of (sym are.terms_are ∙ sym view)
    ∙ others_front (numbers mask es) (items fs) (few_numbers mask es masks)
    ∙ others_all (items fs) (long_items fs long)

-- short keys and others are apart
pub both_apart : (xs ys : Terms) → AllByRecursion (λ t. length t.0 ≤ 15) xs → AllByRecursion (λ t. max_short < length t.0) ys → IsDistinct bytes_eq (keys_of xs) → IsDistinct bytes_eq (keys_of ys) → IsDistinct bytes_eq (keys_of (xs ++ ys))
unfolding IsDistinct
both_apart [] ys few long some more = more
both_apart (x ∷ xs) ys few long some more =
    IsDistinct-cons bytes_eq x.0 (keys_of (xs ++ ys))
    (joined xs (IsDistinct-head bytes_eq x.0 (keys_of xs) some))
    (both_apart xs ys few.1 long (IsDistinct-tail bytes_eq x.0 (keys_of xs) some) more)
  where
    apart : (k : List ℕ) (b : Bool) → bytes_eq x.0 k ≡ b → 15 < length k → b ≡ false
    apart k true same many = (let is : length x.0 ≡ length k = ap length ((bytes_eq-Decides x.0 k).0 same) in let little : length x.0 ≤ 15 = few.0 in absurd (omega (arith, is, little, many)))
    apart k false other many = refl

    behind : (zs : Terms) → AllByRecursion (λ t. max_short < length t.0) zs → AllByRecursion (λ k. bytes_eq x.0 k ≡ false) (keys_of zs)
    behind [] all = tt
    behind (z ∷ zs) all = (apart z.0 (bytes_eq x.0 z.0) refl all.0, behind zs all.1)

    joined : (zs : Terms) → AllByRecursion (λ k. bytes_eq x.0 k ≡ false) (keys_of zs) → AllByRecursion (λ k. bytes_eq x.0 k ≡ false) (keys_of (zs ++ ys))
    joined [] all = behind ys long
    joined (z ∷ zs) all = (all.0, joined zs all.1)

pub terms_apart : (terms : Terms) (short : List (List ℕ × Recorder)) (are : AreShortTerms terms short) → IsDistinct bytes_eq (keys_of are.others) → IsDistinct bytes_eq (keys_of terms)
terms_apart terms short are more = subst (λ ts. IsDistinct bytes_eq (keys_of ts)) (sym are.terms_are) (both_apart (read short) are.others (few_read short are.each_short) are.long are.apart more)

-- ---- one field

-- its two maps, and the terms that they are
pub record AreMaps {S L : Type 0} (mask : ℕ) (short : HashMap ℕ Recorder S) (long : HashMap (Vec ℕ Global) Recorder L) (terms : Terms) : Type 0 where
  pub masks : AllByRecursion (IsMasked mask) (keys_of short.entries)
  pub long_keys : AllByRecursion (λ k. max_short < length k.items) (keys_of long.entries)
  pub view : numbers mask short.entries ++ items long.entries ≡ terms

module _ {S L : Type 0} (mask : ℕ) (short : HashMap ℕ Recorder S) (long : HashMap (Vec ℕ Global) Recorder L) (terms : Terms) (maps : AreMaps mask short long terms) (key : List ℕ) where
  -- what is found of a short key
  pub found_short : IsShort key → lookup (nat_eq (masked mask (packed key))) short.entries ≡ lookup (bytes_eq key) terms
  found_short is =
      lookup_number mask key short.entries is maps.masks
      ∙ sym (lookup_front key (numbers mask short.entries) (items long.entries) (short_none key long.entries is.short maps.long_keys))
      ∙ ap (lookup (bytes_eq key)) maps.view

  -- and of another
  pub found_long : max_short < length key → get_by (λ k. bytes_eq key k.items) long ≡ lookup (bytes_eq key) terms
  found_long is =
      sym (lookup_items key long.entries)
      ∙ sym (lookup_back key (numbers mask short.entries) (items long.entries) (long_none mask key short.entries is maps.masks))
      ∙ ap (lookup (bytes_eq key)) maps.view

  -- after a recorder is put at a short key
  pub updated_short : (new : HashMap ℕ Recorder S) (r : Recorder) → mask < 2 ^ 128 → IsShort key → AllByRecursion (IsMasked mask) (keys_of new.entries) → UpdatesBy nat_eq (nat_eq (masked mask (packed key))) short new (Some r) → (q : List ℕ) → lookup (bytes_eq q) (numbers mask new.entries ++ items long.entries) ≡ update bytes_eq (λ p. lookup (bytes_eq p) terms) key (Some r) q
  updated_short new r fits is news up q =
      let P : Terms → Type 0 = λ ts. lookup (bytes_eq q) (numbers mask new.entries ++ items long.entries) ≡ update bytes_eq (λ p. lookup (bytes_eq p) ts) key (Some r) q in
      subst P maps.view (update_front key r (numbers mask short.entries) (numbers mask new.entries) (items long.entries) (updates_numbers mask key short new (Some r) fits is maps.masks news up) q)

  -- and at another
  pub updated_long : (new : HashMap (Vec ℕ Global) Recorder L) (r : Recorder) → max_short < length key → UpdatesBy (λ x y. pointwise nat_eq x.items y.items) (λ k. pointwise nat_eq key k.items) long new (Some r) → (q : List ℕ) → lookup (bytes_eq q) (numbers mask short.entries ++ items new.entries) ≡ update bytes_eq (λ p. lookup (bytes_eq p) terms) key (Some r) q
  updated_long new r is up q =
      let P : Terms → Type 0 = λ ts. lookup (bytes_eq q) (numbers mask short.entries ++ items new.entries) ≡ update bytes_eq (λ p. lookup (bytes_eq p) ts) key (Some r) q in
      subst P maps.view (update_back key r (numbers mask short.entries) (items long.entries) (items new.entries) (long_none mask key short.entries is maps.masks)
      (λ p. lookup_items p new.entries ∙ updates_bytes key long new (Some r) up p ∙ ap (λ o. cond (bytes_eq key p) (Some r) o) (sym (lookup_items p long.entries))) q)

-- keys are read of terms that are lent
pub keys_read : (ts : List (List ℕ × Bor Recorder)) → map (λ t. (key_of t.0, t.1.now)) ts ≡ read (map (λ t. (t.0, t.1.now)) ts)
keys_read [] = refl
keys_read (t ∷ ts) = ap (λ rest. (key_of t.0, t.1.now) ∷ rest) (keys_read ts)

pub at_ok : {A E : Type 0} (r : Result A E) (x : A) (P : A → Type 0) → r ≡ Ok x → IfOk r P → P x
at_ok r x P is holds = subst (λ q. IfOk q P) is holds
