-- Alive sets, one after another, stand for one list of sets.
use Rattle.std.proofs.Common.{[], ◌*◌, ◌++◌, ◌+◌, ◌/◌, ◌<◌, ◌∷◌, ◌≡◌, ◌≢◌, ◌∙◌, Bool, List, Some, ap, ap₂, append-nil, append_assoc, arith, drop, flat_map, length, length-append, refl, sym, take, ℕ}
use Rattle.std.proofs.lemmas.List.{drop_at, take_at}
use Rattle.std.specs.List.{AllByRecursion}
use Rattle.common.proofs.AliveSetBytes.{length-words_bytes, one_set, u32_back}
use Rattle.common.proofs.FlagWords.{length-alive_words}
use Rattle.definitions.specs.NumberCodes.{take_u32, u32_bytes, u64_bytes}
use Rattle.layouts.specs.AliveSets.{alive_bytes, alive_words}
use Rattle.index_file.specs.Bodies.{IsShort}
use Rattle.common.proofs.Many.{parts_are}

-- ---- one set

pub length-alive_bytes : (flags : List Bool) → length (alive_bytes flags) ≡ 4 + 8 * ((length flags + 63) / 64)
length-alive_bytes flags = length-append (u32_bytes (length flags)) (flat_map u64_bytes (alive_words flags)) ∙ ap (λ n. 4 + n) (length-words_bytes (alive_words flags) ∙ ap (λ m. 8 * m) (length-alive_words flags))

pub count_taken : (flags : List Bool) (rest : List ℕ) → IsShort flags → take_u32 (alive_bytes flags ++ rest) ≡ Some (length flags, flat_map u64_bytes (alive_words flags) ++ rest)
count_taken flags rest short = ap take_u32 (append_assoc (u32_bytes (length flags)) (flat_map u64_bytes (alive_words flags)) rest) ∙ u32_back (length flags) (flat_map u64_bytes (alive_words flags) ++ rest) short

-- how many bytes a set takes, by the count that was read
pub set_length : (flags : List Bool) (bytes rest after : List ℕ) (n : ℕ) → IsShort flags → bytes ≡ alive_bytes flags ++ rest → take_u32 bytes ≡ Some (n, after) → length (alive_bytes flags) ≡ 4 + 8 * ((n + 63) / 64)
set_length flags bytes rest after n short same taken =
    let behind = flat_map u64_bytes (alive_words flags) ++ rest in
    let count : length flags ≡ n = (parts_are (length flags, behind) n after (sym (count_taken flags rest short) ∙ ap take_u32 (sym same) ∙ taken)).0 in
    length-alive_bytes flags ∙ ap (λ m. 4 + 8 * ((m + 63) / 64)) count

-- a set that stands first is one, and so is what follows it
pub first_set : (a b : List Bool) (r s : List ℕ) → IsShort a → IsShort b → alive_bytes a ++ r ≡ alive_bytes b ++ s → (a ≡ b) × (r ≡ s)
first_set a b r s a_short b_short same =
    let counts = sym (count_taken a r a_short) ∙ ap take_u32 same ∙ count_taken b s b_short in
    let count : length a ≡ length b = (parts_are (length a, flat_map u64_bytes (alive_words a) ++ r) (length b) (flat_map u64_bytes (alive_words b) ++ s) counts).0 in
    let long : length (alive_bytes a) ≡ length (alive_bytes b) = length-alive_bytes a ∙ ap (λ n. 4 + 8 * ((n + 63) / 64)) count ∙ sym (length-alive_bytes b) in
    let n = length (alive_bytes b) in
    let bytes : alive_bytes a ≡ alive_bytes b = sym (take_at (alive_bytes a) r n long) ∙ ap (take n) same ∙ take_at (alive_bytes b) s n refl in
    let rests : r ≡ s = sym (drop_at (alive_bytes a) r n long) ∙ ap (drop n) same ∙ drop_at (alive_bytes b) s n refl in
    (one_set a b (alive_bytes b) (record { count = a_short; bytes_are = sym bytes }) (record { count = b_short; bytes_are = refl }), rests)

-- ---- sets, one after another

-- the same number of sets
pub same_sets : (xs ys : List (List Bool)) (r s : List ℕ) → length xs ≡ length ys → AllByRecursion IsShort xs → AllByRecursion IsShort ys → flat_map alive_bytes xs ++ r ≡ flat_map alive_bytes ys ++ s → (xs ≡ ys) × (r ≡ s)
same_sets [] [] r s long a_short b_short same = (refl, same)
same_sets [] (b ∷ ys) r s long a_short b_short same = absurd (omega (arith, long))
same_sets (a ∷ xs) [] r s long a_short b_short same = absurd (omega (arith, long))
same_sets (a ∷ xs) (b ∷ ys) r s long a_short b_short same =
    let joined = sym (append_assoc (alive_bytes a) (flat_map alive_bytes xs) r) ∙ same ∙ append_assoc (alive_bytes b) (flat_map alive_bytes ys) s in
    let first = first_set a b (flat_map alive_bytes xs ++ r) (flat_map alive_bytes ys ++ s) a_short.0 b_short.0 joined in
    let others = same_sets xs ys r s (omega (arith, long)) a_short.1 b_short.1 first.1 in
    (ap₂ (λ z zs. z ∷ zs) first.0 others.0, others.1)

-- no set stands first
abbrev pub BeginsNone : List ℕ → Type 0
BeginsNone bytes = (flags : List Bool) (rest : List ℕ) → IsShort flags → bytes ≢ alive_bytes flags ++ rest

-- where no set follows those that were read there are no more of them
pub no_more_sets : (xs ys : List (List Bool)) (r s : List ℕ) → length xs < length ys → AllByRecursion IsShort xs → AllByRecursion IsShort ys → BeginsNone r → flat_map alive_bytes xs ++ r ≢ flat_map alive_bytes ys ++ s
no_more_sets xs [] r s more a_short b_short none same = absurd (omega (arith, more))
no_more_sets [] (b ∷ ys) r s more a_short b_short none same = none b (flat_map alive_bytes ys ++ s) b_short.0 (same ∙ append_assoc (alive_bytes b) (flat_map alive_bytes ys) s)
no_more_sets (a ∷ xs) (b ∷ ys) r s more a_short b_short none same =
    let joined = sym (append_assoc (alive_bytes a) (flat_map alive_bytes xs) r) ∙ same ∙ append_assoc (alive_bytes b) (flat_map alive_bytes ys) s in
    let first = first_set a b (flat_map alive_bytes xs ++ r) (flat_map alive_bytes ys ++ s) a_short.0 b_short.0 joined in
    no_more_sets xs ys r s (omega (arith, more)) a_short.1 b_short.1 none first.1

-- ---- one set more

pub short_more : (sets : List (List Bool)) (set : List Bool) → AllByRecursion IsShort sets → IsShort set → AllByRecursion IsShort (sets ++ set ∷ [])
short_more [] set are is = (is, tt)
short_more (s ∷ sets) set are is = (are.0, short_more sets set are.1 is)

pub bytes_more : (sets : List (List Bool)) (set : List Bool) (rest after : List ℕ) → rest ≡ alive_bytes set ++ after → flat_map alive_bytes sets ++ rest ≡ flat_map alive_bytes (sets ++ set ∷ []) ++ after
bytes_more [] set rest after e = e ∙ ap (λ bs. bs ++ after) (sym (append-nil (alive_bytes set)))
bytes_more (s ∷ sets) set rest after e =
    append_assoc (alive_bytes s) (flat_map alive_bytes sets) rest
    ∙ ap (λ bs. alive_bytes s ++ bs) (bytes_more sets set rest after e)
    ∙ sym (append_assoc (alive_bytes s) (flat_map alive_bytes (sets ++ set ∷ [])) after)
