-- The bytes of alive sets: what stands in them, and that they stand for one list of flags.
use Rattle.std.proofs.Common.{ℕ, List, [], ◌∷◌, ◌++◌, ◌≡◌, ◌≢◌, ◌<◌, ◌+◌, ◌*◌, ◌/◌, ◌^◌, Bool, Option, Some, None, option_map, refl, sym, ap, ap₂, ◌∙◌, arith, length, drop, take, subst, length-append}
use Rattle.std.proofs.lemmas.List.{drop_at, take_at}
use Rattle.std.proofs.lemmas.Nat.{from_le_bytes-to_le_bytes_4, from_le_bytes-to_le_bytes_8}
use Rattle.std.specs.Int.{from_le_bytes, w32, w64}
use Rattle.std.specs.List.{flat_map}
use Rattle.common.proofs.DigitNumbers.{AreDigits, digits-tail}
use Rattle.common.proofs.FlagWords.{alive_words_are, flags_of-alive_words, length-alive_words}
use Rattle.common.proofs.TakenBack.{count_back, u32_put, number_of as count_in}
use Rattle.common.specs.BitSets.{flags_of}
use Rattle.definitions.specs.NumberCodes.{AreBytes, take_u32, u32_bytes, u64_bytes, take_u64}
use Rattle.layouts.specs.AliveSets.{IsAliveSet, alive_words}

-- ---- words as bytes

pub length-words_bytes : (words : List ℕ) → length (flat_map u64_bytes words) ≡ 8 * length words
length-words_bytes [] = refl
length-words_bytes (w ∷ ws) = length-append (u64_bytes w) (flat_map u64_bytes ws) ∙ (let more = length-words_bytes ws in omega arith)

same_number : (a b : ℕ) → a < 2 ^ 64 → b < 2 ^ 64 → u64_bytes a ≡ u64_bytes b → a ≡ b
same_number a b a_small b_small same = sym (from_le_bytes-to_le_bytes_8 a a_small) ∙ ap (λ bs. from_le_bytes w64 bs) same ∙ from_le_bytes-to_le_bytes_8 b b_small

-- words with the same bytes are the same
pub same_words : (ws vs : List ℕ) → length ws ≡ length vs → AreDigits (2 ^ 64) ws → AreDigits (2 ^ 64) vs → flat_map u64_bytes ws ≡ flat_map u64_bytes vs → ws ≡ vs
same_words [] [] long ws_small vs_small same = refl
same_words [] (v ∷ vs) long ws_small vs_small same = absurd (omega arith)
same_words (w ∷ ws) [] long ws_small vs_small same = absurd (omega arith)
same_words (w ∷ ws) (v ∷ vs) long ws_small vs_small same =
    let first : u64_bytes w ≡ u64_bytes v = sym (take_at (u64_bytes w) (flat_map u64_bytes ws) 8 refl) ∙ ap (λ bs. take 8 bs) same ∙ take_at (u64_bytes v) (flat_map u64_bytes vs) 8 refl in
    let rest : flat_map u64_bytes ws ≡ flat_map u64_bytes vs = sym (drop_at (u64_bytes w) (flat_map u64_bytes ws) 8 refl) ∙ ap (λ bs. drop 8 bs) same ∙ drop_at (u64_bytes v) (flat_map u64_bytes vs) 8 refl in
    ap₂ (λ x xs. x ∷ xs) (same_number w v (ws_small 0) (vs_small 0) first) (same_words ws vs (omega arith) (digits-tail (2 ^ 64) w ws ws_small) (digits-tail (2 ^ 64) v vs vs_small) rest)

-- ---- the count that stands first

abbrev pub rest_in : Option (ℕ × List ℕ) → List ℕ
rest_in None = []
rest_in (Some p) = p.1

pub u32_back : (n : ℕ) (rest : List ℕ) → n < 2 ^ 32 → take_u32 (u32_bytes n ++ rest) ≡ Some (n, rest)
u32_back n rest few = ap (λ o. option_map (λ p. (from_le_bytes w32 p.0, p.1)) o) (count_back (u32_bytes n) rest) ∙ ap (λ m. Some (m, rest)) (from_le_bytes-to_le_bytes_4 n few)

-- what is taken from the bytes of a set
set_taken : (flags : List Bool) (bytes : List ℕ) → IsAliveSet flags bytes → take_u32 bytes ≡ Some (length flags, flat_map u64_bytes (alive_words flags))
set_taken flags bytes are = ap take_u32 are.bytes_are ∙ u32_back (length flags) (flat_map u64_bytes (alive_words flags)) are.count

-- the count and the words that were taken are those of the set
pub taken_count : (flags : List Bool) (bytes : List ℕ) (n : ℕ) (rest : List ℕ) → IsAliveSet flags bytes → take_u32 bytes ≡ Some (n, rest) → length flags ≡ n
taken_count flags bytes n rest are taken = ap count_in (sym (set_taken flags bytes are) ∙ taken)

pub taken_rest : (flags : List Bool) (bytes : List ℕ) (n : ℕ) (rest : List ℕ) → IsAliveSet flags bytes → take_u32 bytes ≡ Some (n, rest) → flat_map u64_bytes (alive_words flags) ≡ rest
taken_rest flags bytes n rest are taken = ap rest_in (sym (set_taken flags bytes are) ∙ taken)

-- ---- bytes that stand for no set

pub other_length : (flags : List Bool) (bytes : List ℕ) (n : ℕ) (rest : List ℕ) → take_u32 bytes ≡ Some (n, rest) → length rest ≢ 8 * ((n + 63) / 64) → ¬ IsAliveSet flags bytes
other_length flags bytes n rest taken other are =
    let count = taken_count flags bytes n rest are taken in
    other (sym (ap length (taken_rest flags bytes n rest are taken)) ∙ length-words_bytes (alive_words flags) ∙ ap (λ m. 8 * m) (length-alive_words flags ∙ ap (λ m. (m + 63) / 64) count))

pub other_words : (flags : List Bool) (bytes : List ℕ) (n : ℕ) (rest words : List ℕ) → take_u32 bytes ≡ Some (n, rest) → flat_map u64_bytes words ≡ rest → length words ≡ (n + 63) / 64 → AreDigits (2 ^ 64) words → (length flags ≡ n → words ≢ alive_words flags) → ¬ IsAliveSet flags bytes
other_words flags bytes n rest words taken spelled long small other are =
    let count = taken_count flags bytes n rest are taken in
    let valid = alive_words_are flags are.count in
    other count (same_words words (alive_words flags) (long ∙ ap (λ m. (m + 63) / 64) (sym count) ∙ sym (length-alive_words flags)) small (λ i. valid.small i) (spelled ∙ sym (taken_rest flags bytes n rest are taken)))

-- ---- bytes that stand for a set

pub set_of : (flags : List Bool) (bytes : List ℕ) (n : ℕ) (rest words : List ℕ) → AreBytes bytes → take_u32 bytes ≡ Some (n, rest) → flat_map u64_bytes words ≡ rest → length flags ≡ n → words ≡ alive_words flags → IsAliveSet flags bytes
set_of flags bytes n rest words digits taken spelled long same =
    let put = u32_put bytes n rest digits taken in
    let P : ℕ → Type 0 = λ m. m < 2 ^ 32 in
    record {
      count = subst P (sym long) put.0;
      bytes_are = put.1 ∙ ap₂ (λ m bs. u32_bytes m ++ bs) (sym long) (sym spelled ∙ ap (λ ws. flat_map u64_bytes ws) same);
    }

-- bytes stand for one set
pub one_set : (a b : List Bool) (bytes : List ℕ) → IsAliveSet a bytes → IsAliveSet b bytes → a ≡ b
one_set a b bytes a_is b_is =
    let taken = set_taken b bytes b_is in
    let count = taken_count a bytes (length b) (flat_map u64_bytes (alive_words b)) a_is taken in
    let rest = taken_rest a bytes (length b) (flat_map u64_bytes (alive_words b)) a_is taken in
    let a_words = alive_words_are a a_is.count in
    let b_words = alive_words_are b b_is.count in
    let words : alive_words a ≡ alive_words b = same_words (alive_words a) (alive_words b) (length-alive_words a ∙ ap (λ m. (m + 63) / 64) count ∙ sym (length-alive_words b)) (λ i. a_words.small i) (λ i. b_words.small i) rest in
    sym (flags_of-alive_words a) ∙ ap₂ flags_of count words ∙ flags_of-alive_words b

pub u64_back : (n : ℕ) (rest : List ℕ) → n < 2 ^ 64 → take_u64 (u64_bytes n ++ rest) ≡ Some (n, rest)
u64_back n rest small =
    ap (option_map (λ (p : List ℕ × List ℕ). (from_le_bytes w64 p.0, p.1))) (count_back (u64_bytes n) rest)
    ∙ ap (λ m. Some (m, rest)) (from_le_bytes-to_le_bytes_8 n small)
