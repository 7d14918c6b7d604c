-- Behind the count, bit i of the bytes of an alive set is flag i.
use Rattle.std.proofs.Common.{ℕ, zero, suc, List, [], ◌∷◌, ◌++◌, ◌≡◌, ◌≤◌, ◌<◌, ◌+◌, ◌-◌, ◌*◌, ◌/◌, ◌%◌, ◌^◌, ◌⊎◌, Bool, false, refl, sym, ap, ap₂, ◌∙◌, add-zero, arith, cond, div-one, drop, get_or, inl, inr, length, take}
use Rattle.std.proofs.Math.Nat.{pow-zero}
use Rattle.std.proofs.lemmas.Bool.{cases_lt}
use Rattle.std.proofs.lemmas.List.{drop_at, get_or-append_right, get_or_append_left, get_or-drop, get_or-take}
use Rattle.std.specs.Int.{bit_at, bytes_low_first}
use Rattle.std.specs.List.{flat_map}
use Rattle.common.proofs.DigitNumbers.{power_of, window_field}
use Rattle.common.proofs.FlagWords.{alive_word-at, bit_at-word}
use Rattle.definitions.specs.NumberCodes.{u32_bytes, u64_bytes}
use Rattle.layouts.specs.AliveSets.{alive_bytes, alive_words}
use Rattle.layouts.specs.PackedBlocks.{bit_in}

-- a byte of a number
byte-in : (i k w j : ℕ) → j < k → get_or (bytes_low_first i k w) j 0 ≡ w / 256 ^ (i + j) % 256
byte-in i zero w j within = absurd (omega arith)
byte-in zero (suc k) w zero within = ap (λ m. m % 256) (sym (ap (λ p. w / p) (pow-zero 256) ∙ div-one w))
byte-in (suc i) (suc k) w zero within = ap (λ m. w / 256 ^ m % 256) (sym (add-zero (suc i)))
byte-in i (suc k) w (suc j) within = byte-in (suc i) k w j (omega arith) ∙ ap (λ m. w / 256 ^ m % 256) (omega arith)

-- a bit of a byte of a word
bit-in-word : (w j b : ℕ) → j < 8 → b < 8 → bit_at (get_or (u64_bytes w) j 0) b ≡ bit_at w (8 * j + b)
bit-in-word w j b within bit =
    ap (λ m. bit_at m b) (byte-in 0 8 w j within ∙ ap (λ p. w / p % 256) (ap (λ m. 256 ^ m) (zero_more j) ∙ power_of 8 j))
    ∙ window_field w (j * 8) b 1 8 (omega arith)
    ∙ ap (bit_at w) (omega arith)
  where
    zero_more : (m : ℕ) → 0 + m ≡ m
    zero_more m = omega arith

-- a byte of words is one of a word
byte-of-words : (words : List ℕ) (k : ℕ) → get_or (flat_map u64_bytes words) k 0 ≡ get_or (u64_bytes (get_or words (k / 8) 0)) (k % 8) 0
byte-of-words [] k = sym (no_byte (k % 8))
  where
    no_byte : (j : ℕ) → get_or (u64_bytes 0) j 0 ≡ 0
    no_byte zero = refl
    no_byte (suc zero) = refl
    no_byte (suc (suc zero)) = refl
    no_byte (suc (suc (suc zero))) = refl
    no_byte (suc (suc (suc (suc zero)))) = refl
    no_byte (suc (suc (suc (suc (suc zero))))) = refl
    no_byte (suc (suc (suc (suc (suc (suc zero)))))) = refl
    no_byte (suc (suc (suc (suc (suc (suc (suc zero))))))) = refl
    no_byte (suc (suc (suc (suc (suc (suc (suc (suc j)))))))) = refl
byte-of-words (w ∷ ws) k = go (λ j. byte-of-words ws j) (cases_lt k 8)
  where
    go : ((j : ℕ) → get_or (flat_map u64_bytes ws) j 0 ≡ get_or (u64_bytes (get_or ws (j / 8) 0)) (j % 8) 0) → (k < 8) ⊎ (8 ≤ k) → get_or (u64_bytes w ++ flat_map u64_bytes ws) k 0 ≡ get_or (u64_bytes (get_or (w ∷ ws) (k / 8) 0)) (k % 8) 0
    go more (inl first) =
        let row : 0 ≡ k / 8 = omega arith in
        let column : k ≡ k % 8 = omega arith in
        get_or_append_left (u64_bytes w) (flat_map u64_bytes ws) 0 k first ∙ ap₂ (λ r c. get_or (u64_bytes (get_or (w ∷ ws) r 0)) c 0) row column
    go more (inr later) =
        let row : suc ((k - 8) / 8) ≡ k / 8 = omega arith in
        let column : (k - 8) % 8 ≡ k % 8 = omega arith in
        get_or-append_right (u64_bytes w) (flat_map u64_bytes ws) 8 k 0 refl later ∙ more (k - 8) ∙ ap₂ (λ r c. get_or (u64_bytes (get_or (w ∷ ws) r 0)) c 0) row column

pub bit-is-flag : (flags : List Bool) (i : ℕ) → bit_in (drop 4 (alive_bytes flags)) i ≡ cond (get_or flags i false) 1 0
bit-is-flag flags i =
    let word = i / 64 in
    let in_words : 8 * (i / 8 % 8) + i % 8 ≡ i % 64 = omega arith in
    let row : i / 8 / 8 ≡ i / 64 = omega arith in
    let place : 64 * (i / 64) + i % 64 ≡ i = omega arith in
    ap (λ bs. bit_in bs i) (drop_at (u32_bytes (length flags)) (flat_map u64_bytes (alive_words flags)) 4 refl)
    ∙ ap (λ byte. bit_at byte (i % 8)) (byte-of-words (alive_words flags) (i / 8))
    ∙ bit-in-word (get_or (alive_words flags) (i / 8 / 8) 0) (i / 8 % 8) (i % 8) (omega arith) (omega arith)
    ∙ ap₂ (λ r b. bit_at (get_or (alive_words flags) r 0) b) row in_words
    ∙ ap (λ w. bit_at w (i % 64)) (alive_word-at flags (i / 64))
    ∙ bit_at-word (take 64 (drop (64 * (i / 64)) flags)) (i % 64)
    ∙ ap (λ flag. cond flag 1 0) (get_or-take 64 (drop (64 * (i / 64)) flags) (i % 64) false (omega arith) ∙ get_or-drop (64 * (i / 64)) flags (i % 64) false ∙ ap (λ k. get_or flags k false) place)
