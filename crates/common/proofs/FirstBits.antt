-- The first bit from a place on, and the numbers in order.
use Rattle.std.proofs.Common.{ℕ, List, ◌≡◌, ◌≢◌, ◌≤◌, ◌<◌, ◌+◌, ◌-◌, ◌*◌, ◌/◌, ◌%◌, ◌^◌, ◌⊎◌, Bool, IfSome, Option, Some, None, true, false, refl, sym, ap, ap₂, ◌∙◌, arith, get_or, inl, inr, length, nat_eq}
use Rattle.std.proofs.lemmas.Bool.{cases_lt}
use Rattle.std.proofs.lemmas.List.{get_or_past}
use Rattle.std.proofs.lemmas.Nat.{shr-shr, shr_le}
use Rattle.std.proofs.lemmas.Nat.Bits.{bit_at-trailing_zeros, bit_at-zero, bit_at_above}
use Rattle.std.specs.Int.{bit_at, trailing_zeros, w64}
use Rattle.common.proofs.BitFlags.{flag_is}
use Rattle.common.specs.BitSets.{IsFirst, flag_at}

-- no flag between two places
abbrev pub NoneIn : (ℕ → Bool) → ℕ → ℕ → Type 0
NoneIn flag from end = (n : ℕ) → from ≤ n → n < end → flag n ≡ false

shifted-bit : (word k j : ℕ) → bit_at (word / 2 ^ k) j ≡ bit_at word (k + j)
shifted-bit word k j = ap (λ n. n % 2) (shr-shr word k j)

-- a flag by its word and its bit
placed : (words : List ℕ) (at k n : ℕ) → k < 64 → n ≡ 64 * at + k → flag_at words n ≡ nat_eq (bit_at (get_or words at 0) k) 1
placed words at k n within is =
    let row : n / 64 ≡ at = omega arith in
    let column : n % 64 ≡ k = omega arith in
    flag_is words n ∙ ap₂ (λ r c. nat_eq (bit_at (get_or words r 0) c) 1) row column

-- ---- a word with a bit

pub fits_here : (words : List ℕ) (from rest trailing : ℕ) → ((i : ℕ) → get_or words i 0 < 2 ^ 64) → rest ≡ get_or words (from / 64) 0 / 2 ^ (from % 64) → rest ≢ 0 → trailing ≡ trailing_zeros w64 rest → from % 64 + trailing < 64
fits_here words from rest trailing small is some counted = go (cases_lt (from % 64 + trailing) 64)
  where
    go : (from % 64 + trailing < 64) ⊎ (64 ≤ from % 64 + trailing) → from % 64 + trailing < 64
    go (inl within) = within
    go (inr past) =
        let word = get_or words (from / 64) 0 in
        let below : rest < 2 ^ 64 = omega (arith, shr_le word (from % 64), small (from / 64)) in
        let positive : 0 < rest = omega arith in
        let bits = bit_at-trailing_zeros w64 rest positive below in
        let one : bit_at rest trailing ≡ 1 = ap (bit_at rest) counted ∙ bits.1 in
        let none : bit_at rest trailing ≡ 0 = ap (λ r. bit_at r trailing) is ∙ shifted-bit word (from % 64) trailing ∙ bit_at_above word 64 (from % 64 + trailing) (small (from / 64)) past in
        absurd (omega arith)

pub first_here : (words : List ℕ) (from rest trailing : ℕ) → ((i : ℕ) → get_or words i 0 < 2 ^ 64) → rest ≡ get_or words (from / 64) 0 / 2 ^ (from % 64) → rest ≢ 0 → trailing ≡ trailing_zeros w64 rest → IsFirst (flag_at words) from (Some (from + trailing))
first_here words from rest trailing small is some counted =
    let word = get_or words (from / 64) 0 in
    let below : rest < 2 ^ 64 = omega (arith, shr_le word (from % 64), small (from / 64)) in
    let positive : 0 < rest = omega arith in
    let bits = bit_at-trailing_zeros w64 rest positive below in
    let within = fits_here words from rest trailing small is some counted in
    let here : (j : ℕ) → bit_at rest j ≡ bit_at word (from % 64 + j) = (λ j. ap (λ r. bit_at r j) is ∙ shifted-bit word (from % 64) j) in
    let set : flag_at words (from + trailing) ≡ true = placed words (from / 64) (from % 64 + trailing) (from + trailing) within (omega arith) ∙ ap (λ b. nat_eq b 1) (sym (here trailing) ∙ ap (bit_at rest) counted ∙ bits.1) in (
      omega arith,
      set,
      λ n from_on before. (
          let j = n - from in
          let inside : j < trailing_zeros w64 rest = omega arith in
          placed words (from / 64) (from % 64 + j) n (omega arith) (omega arith) ∙ ap (λ b. nat_eq b 1) (sym (here j) ∙ bits.2 j inside)),
    )

pub none_here : (words : List ℕ) (from rest : ℕ) → rest ≡ get_or words (from / 64) 0 / 2 ^ (from % 64) → rest ≡ 0 → NoneIn (flag_at words) from (64 * (from / 64 + 1))
none_here words from rest is none n from_on before =
    let word = get_or words (from / 64) 0 in
    let j = n - from in
    placed words (from / 64) (from % 64 + j) n (omega arith) (omega arith) ∙ ap (λ b. nat_eq b 1) (sym (ap (λ r. bit_at r j) (sym none ∙ is) ∙ shifted-bit word (from % 64) j) ∙ bit_at-zero j)

-- ---- the words after it

pub none_more : (words : List ℕ) (from i : ℕ) → NoneIn (flag_at words) from (64 * i) → get_or words i 0 ≡ 0 → NoneIn (flag_at words) from (64 * (i + 1))
none_more words from i none zero_word n from_on before = go (cases_lt n (64 * i))
  where
    go : (n < 64 * i) ⊎ (64 * i ≤ n) → flag_at words n ≡ false
    go (inl earlier) = none n from_on earlier
    go (inr here) = placed words i (n - 64 * i) n (omega arith) (omega arith) ∙ ap (λ w. nat_eq (bit_at w (n - 64 * i)) 1) zero_word ∙ ap (λ b. nat_eq b 1) (bit_at-zero (n - 64 * i))

pub zeros_fit : (word trailing : ℕ) → word < 2 ^ 64 → word ≢ 0 → trailing ≡ trailing_zeros w64 word → trailing < 64
zeros_fit word trailing small some counted = (let positive : 0 < word = omega arith in let bits = bit_at-trailing_zeros w64 word positive small in let within = bits.0 in omega arith)

pub first_later : (words : List ℕ) (from i word trailing : ℕ) → NoneIn (flag_at words) from (64 * i) → from ≤ 64 * i → word ≡ get_or words i 0 → word < 2 ^ 64 → word ≢ 0 → trailing ≡ trailing_zeros w64 word → IsFirst (flag_at words) from (Some (64 * i + trailing))
first_later words from i word trailing none later is small some counted =
    let positive : 0 < word = omega arith in
    let bits = bit_at-trailing_zeros w64 word positive small in
    let within = zeros_fit word trailing small some counted in
    let set : flag_at words (64 * i + trailing) ≡ true = placed words i trailing (64 * i + trailing) within refl ∙ ap (λ b. nat_eq b 1) (ap₂ bit_at (sym is) counted ∙ bits.1) in
    (omega arith, set, λ n from_on before. go n from_on before (cases_lt n (64 * i)))
  where
    go : (n : ℕ) → from ≤ n → n < 64 * i + trailing → (n < 64 * i) ⊎ (64 * i ≤ n) → flag_at words n ≡ false
    go n from_on before (inl earlier) = none n from_on earlier
    go n from_on before (inr here) =
        let positive : 0 < word = omega arith in
        let bits = bit_at-trailing_zeros w64 word positive small in
        let inside : n - 64 * i < trailing_zeros w64 word = omega arith in
        let within = zeros_fit word trailing small some counted in
        placed words i (n - 64 * i) n (omega arith) (omega arith) ∙ ap (λ b. nat_eq b 1) (ap (λ w. bit_at w (n - 64 * i)) (sym is) ∙ bits.2 (n - 64 * i) inside)

pub past_words : (words : List ℕ) (n : ℕ) → 64 * length words ≤ n → flag_at words n ≡ false
past_words words n past = flag_is words n ∙ ap (λ w. nat_eq (bit_at w (n % 64)) 1) (get_or_past words (n / 64) 0 (omega arith)) ∙ ap (λ b. nat_eq b 1) (bit_at-zero (n % 64))

pub none_after : (words : List ℕ) (from i : ℕ) → NoneIn (flag_at words) from (64 * i) → length words ≤ i → IsFirst (flag_at words) from None
none_after words from i none all n from_on = go (cases_lt n (64 * i))
  where
    go : (n < 64 * i) ⊎ (64 * i ≤ n) → flag_at words n ≡ false
    go (inl earlier) = none n from_on earlier
    go (inr past) = past_words words n (omega arith)

pub none_past : (words : List ℕ) (from : ℕ) → length words ≤ from / 64 → IsFirst (flag_at words) from None
none_past words from past n from_on = past_words words n (omega arith)

-- likewise of flags that are the same
pub first_same : (f g : ℕ → Bool) (from : ℕ) (r : Option ℕ) → ((i : ℕ) → f i ≡ g i) → IsFirst f from r → IsFirst g from r
first_same f g from None same first = λ n from_on. sym (same n) ∙ first n from_on
first_same f g from (Some at) same first = (first.0, sym (same at) ∙ first.1, λ n from_on before. sym (same n) ∙ first.2 n from_on before)

-- ---- the numbers in order

abbrev flag_in : List Bool → ℕ → Bool
flag_in flags i = get_or flags i false

pub set_inside : (flags : List Bool) (at : ℕ) → get_or flags at false ≡ true → at < length flags
set_inside flags at set = go (cases_lt at (length flags))
  where
    go : (at < length flags) ⊎ (length flags ≤ at) → at < length flags
    go (inl within) = within
    go (inr past) = (let none : get_or flags at false ≡ false = get_or_past flags at false past in absurd (cc))

pub first_inside : (flags : List Bool) (from : ℕ) (r : Option ℕ) → length flags < 2 ^ 32 → IsFirst (flag_in flags) from r → IfSome r (λ at. (at < length flags) × (length flags < 2 ^ 32))
first_inside flags from None few first = tt
first_inside flags from (Some at) few first = (set_inside flags at first.1, few)
