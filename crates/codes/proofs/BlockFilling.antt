-- Packing keeps one number: the bytes written, and the bits that wait above them.
use Rattle.std.proofs.Common.{ℕ, zero, suc, List, [], ◌∷◌, ◌++◌, ◌≡◌, ◌≤◌, ◌<◌, ◌+◌, ◌-◌, ◌*◌, ◌/◌, ◌%◌, ◌^◌, refl, sym, ap, ap₂, ◌∙◌, arith, get_or, length, take, bit_and, bit_or, mul-add, mul_assoc, mul_comm, subst, length-take, add-mul, take_all}
use Rattle.std.proofs.Math.Nat.{mod-lt, mul-le-mul_right}
use Rattle.std.proofs.Math.Arith.{digits_lt}
use Rattle.std.proofs.lemmas.List.{take_more}
use Rattle.std.proofs.lemmas.Nat.{and_mask, from_le_bytes-to_le_bytes_4, pow-add, shl_whole, shr_below, shr_split}
use Rattle.common.proofs.DigitNumbers.{AreDigits, number-append, number_of_four, power_of}
use Rattle.std.specs.Int.Bits.{or_shifted_r}
use Rattle.codes.proofs.BitWindows.{digits-append}
use Rattle.codes.proofs.BlockPackings.{pow-pos}
use Rattle.std.specs.Int.{to_le_bytes, w32}
use lib.Lanes.{number_l}

-- n is the number of the bytes written, total that of the values taken, bits how many bits these have
pub record Packs (n total waiting filled words bits : ℕ) : Type 0 where
  pub number : n + 2 ^ (32 * words) * waiting ≡ total
  pub fill : 32 * words + filled ≡ bits
  pub small : waiting < 2 ^ filled

-- a value goes above the bits that wait
pub value_added : (n total waiting filled words bits value width : ℕ) → Packs n total waiting filled words bits → value < 2 ^ width → Packs n (total + 2 ^ bits * value) (waiting + value * 2 ^ filled) (filled + width) words (bits + width)
value_added n total waiting filled words bits value width p small = record {
  number =
      let weight = 2 ^ (32 * words) in
      let above : weight * (value * 2 ^ filled) ≡ 2 ^ bits * value = ap (λ m. weight * m) (mul_comm value (2 ^ filled)) ∙ sym (mul_assoc weight (2 ^ filled) value) ∙ ap (λ m. m * value) (sym (pow-add 2 (32 * words) filled) ∙ ap (λ k. 2 ^ k) p.fill) in
      omega (arith, mul-add weight waiting (value * 2 ^ filled), p.number);
  fill = omega (arith, p.fill);
  small = omega (arith, digits_lt {c = 2 ^ filled} small p.small, pow-add 2 filled width, mul_comm (2 ^ filled) (2 ^ width));
}

-- the lowest 32 bits are written
pub word_written : (n total waiting filled words bits : ℕ) → Packs n total waiting filled words bits → 32 ≤ filled → Packs (n + 2 ^ (32 * words) * (waiting % 2 ^ 32)) total (waiting / 2 ^ 32) (filled - 32) (words + 1) bits
word_written n total waiting filled words bits p enough = record {
  number =
      let weight = 2 ^ (32 * words) in
      let high = waiting / 2 ^ 32 in
      let next : 2 ^ (32 * (words + 1)) ≡ weight * 2 ^ 32 = ap (λ k. 2 ^ k) (omega arith) ∙ pow-add 2 (32 * words) 32 in
      let above : 2 ^ (32 * (words + 1)) * high ≡ weight * (high * 2 ^ 32) = ap (λ m. m * high) next ∙ mul_assoc weight (2 ^ 32) high ∙ ap (λ m. weight * m) (mul_comm (2 ^ 32) high) in
      let split : weight * (high * 2 ^ 32) + weight * (waiting % 2 ^ 32) ≡ weight * waiting = sym (mul-add weight (high * 2 ^ 32) (waiting % 2 ^ 32)) ∙ ap (λ m. weight * m) (shr_split waiting 32) in
      omega (arith, p.number);
  fill = omega (arith, p.fill);
  small = shr_below waiting (filled - 32) 32 (let P : ℕ → Type 0 = λ k. waiting < 2 ^ k in let same : filled ≡ filled - 32 + 32 = omega arith in subst P same p.small);
}

-- four bytes more
pub word_after : (old new : List ℕ) (words word : ℕ) → 4 * words ≤ length old → word < 2 ^ 32 → take (4 * words + 4) new ≡ take (4 * words) old ++ to_le_bytes w32 word → number_l 256 (take (4 * words + 4) new) ≡ number_l 256 (take (4 * words) old) + 2 ^ (32 * words) * word
word_after old new words word inside small more =
    let front = take (4 * words) old in
    let long : length front ≡ 4 * words = omega (arith, length-take (4 * words) old) in
    let weight : 256 ^ length front ≡ 2 ^ (32 * words) = power_of 8 (length front) ∙ ap (λ k. 2 ^ k) (omega arith) in
    let four : number_l 256 (to_le_bytes w32 word) ≡ word = sym (number_of_four (to_le_bytes w32 word) refl) ∙ from_le_bytes-to_le_bytes_4 word small in
    ap (λ bytes. number_l 256 bytes) more ∙ number-append 256 front (to_le_bytes w32 word) ∙ ap₂ (λ p n. number_l 256 front + p * n) weight four

-- one value more
pub number_after : (p i : ℕ) (xs : List ℕ) → i < length xs → number_l p (take (i + 1) xs) ≡ number_l p (take i xs) + p ^ i * get_or xs i 0
number_after p i xs inside =
    let front = take i xs in
    let long : length front ≡ i = omega (arith, length-take i xs) in
    ap (λ ys. number_l p ys) (take_more xs i 0 inside) ∙ number-append p front (get_or xs i 0 ∷ []) ∙ ap₂ (λ k n. number_l p front + p ^ k * n) long (omega arith)

-- as code adds a value of a list
pub value_packed : (numbers : List ℕ) (n width index waiting filled words : ℕ) → index < length numbers → width ≤ 32 → filled < 32 → get_or numbers index 0 < 2 ^ width → Packs n (number_l (2 ^ width) (take index numbers)) waiting filled words (index * width) → Packs n (number_l (2 ^ width) (take (index + 1) numbers)) (bit_or waiting (get_or numbers index 0 * 2 ^ filled % 2 ^ 64)) (filled + width) words ((index + 1) * width)
value_packed numbers n width index waiting filled words inside narrow few small p =
    let value = get_or numbers index 0 in
    let added = value_added n (number_l (2 ^ width) (take index numbers)) waiting filled words (index * width) value width p small in
    let total : number_l (2 ^ width) (take index numbers) + 2 ^ (index * width) * value ≡ number_l (2 ^ width) (take (index + 1) numbers) = sym (number_after (2 ^ width) index numbers inside ∙ ap (λ m. number_l (2 ^ width) (take index numbers) + m * value) (power_of width index)) in
    let joined : waiting + value * 2 ^ filled ≡ bit_or waiting (value * 2 ^ filled % 2 ^ 64) = sym (ap (λ m. bit_or waiting m) (shl_whole value width filled 64 small (omega arith)) ∙ or_shifted_r value filled waiting p.small ∙ omega arith) in
    let fill : index * width + width ≡ (index + 1) * width = omega (arith, add-mul index 1 width) in
    let P : ℕ → Type 0 = λ t. Packs n t (waiting + value * 2 ^ filled) (filled + width) words (index * width + width) in
    let Q : ℕ → Type 0 = λ m. Packs n (number_l (2 ^ width) (take (index + 1) numbers)) m (filled + width) words (index * width + width) in
    let R : ℕ → Type 0 = λ b. Packs n (number_l (2 ^ width) (take (index + 1) numbers)) (bit_or waiting (value * 2 ^ filled % 2 ^ 64)) (filled + width) words b in
    subst R fill (subst Q joined (subst P total added))

-- as code writes four bytes
pub word_packed : (old new : List ℕ) (total waiting filled words bits : ℕ) → 4 * words ≤ length old → 32 ≤ filled → take (4 * words + 4) new ≡ take (4 * words) old ++ to_le_bytes w32 (bit_and waiting 0xffff_ffff) → Packs (number_l 256 (take (4 * words) old)) total waiting filled words bits → Packs (number_l 256 (take (4 * (words + 1)) new)) total (waiting / 2 ^ 32) (filled - 32) (words + 1) bits
word_packed old new total waiting filled words bits inside enough more p =
    let low : bit_and waiting 0xffff_ffff ≡ waiting % 2 ^ 32 = and_mask waiting 32 in
    let after = word_after old new words (waiting % 2 ^ 32) inside (mod-lt waiting (pow-pos 32)) (more ∙ ap (λ m. take (4 * words) old ++ to_le_bytes w32 m) low) in
    let weight : 4 * words + 4 ≡ 4 * (words + 1) = omega arith in
    let P : ℕ → Type 0 = λ n. Packs n total (waiting / 2 ^ 32) (filled - 32) (words + 1) bits in
    subst P (sym after ∙ ap (λ k. number_l 256 (take k new)) weight) (word_written (number_l 256 (take (4 * words) old)) total waiting filled words bits p enough)

four_digits : (n : ℕ) → AreDigits 256 (to_le_bytes w32 n)
four_digits n zero = omega arith
four_digits n (suc zero) = omega arith
four_digits n (suc (suc zero)) = omega arith
four_digits n (suc (suc (suc zero))) = omega arith
four_digits n (suc (suc (suc (suc i)))) = omega arith

pub digits_packed : (old new : List ℕ) (words word : ℕ) → take (4 * words + 4) new ≡ take (4 * words) old ++ to_le_bytes w32 word → AreDigits 256 (take (4 * words) old) → AreDigits 256 (take (4 * (words + 1)) new)
digits_packed old new words word more digits =
    let weight : 4 * words + 4 ≡ 4 * (words + 1) = omega arith in
    let P : List ℕ → Type 0 = λ bytes. AreDigits 256 bytes in
    subst P (sym more ∙ ap (λ k. take k new) weight) (digits-append 256 (take (4 * words) old) (to_le_bytes w32 word) digits (four_digits word))

pub digits_as : (words words' : ℕ) (out out' : List ℕ) → out' ≡ out → words' ≡ words → AreDigits 256 (take (4 * words) out) → AreDigits 256 (take (4 * words') out')
digits_as words words' out out' eo ew digits =
    let O : List ℕ → Type 0 = λ o. AreDigits 256 (take (4 * words) o) in
    let W : ℕ → Type 0 = λ w. AreDigits 256 (take (4 * w) out') in
    subst W (sym ew) (subst O (sym eo) digits)

-- the words are those of the block
done : (n total width index waiting filled words : ℕ) → index ≡ 128 → filled < 32 → Packs n total waiting filled words (index * width) → 4 * words ≡ 16 * width
done n total width index waiting filled words end few p = (let spread : index * width ≡ 128 * width = ap (λ k. k * width) end in omega (arith, p.fill))

pub digits_done : (n total width index waiting filled words : ℕ) (out : List ℕ) → index ≡ 128 → filled < 32 → Packs n total waiting filled words (index * width) → AreDigits 256 (take (4 * words) out) → AreDigits 256 (take (16 * width) out)
digits_done n total width index waiting filled words out end few p digits = (let P : ℕ → Type 0 = λ k. AreDigits 256 (take k out) in subst P (done n total width index waiting filled words end few p) digits)

-- at the end no bit waits
pub all_packed : (numbers out : List ℕ) (width index waiting filled words : ℕ) → length numbers ≡ 128 → index ≡ 128 → filled < 32 → Packs (number_l 256 (take (4 * words) out)) (number_l (2 ^ width) (take index numbers)) waiting filled words (index * width) → number_l 256 (take (16 * width) out) ≡ number_l (2 ^ width) numbers
all_packed numbers out width index waiting filled words count end few p =
    let spread : index * width ≡ 128 * width = ap (λ k. k * width) end in
    let none : filled ≡ 0 = omega (arith, p.fill) in
    let done : 4 * words ≡ 16 * width = omega (arith, p.fill) in
    let empty : waiting ≡ 0 = (let one : 2 ^ filled ≡ 1 = ap (λ k. 2 ^ k) none in omega (arith, p.small)) in
    let nothing : 2 ^ (32 * words) * waiting ≡ 0 = ap (λ m. 2 ^ (32 * words) * m) empty ∙ omega arith in
    let whole : take index numbers ≡ numbers = take_all index numbers (omega arith) in
    ap (λ k. number_l 256 (take k out)) (sym done) ∙ omega (arith, p.number) ∙ ap (λ xs. number_l (2 ^ width) xs) whole

-- likewise for values that are equal to these
pub packs_as : (total bits waiting waiting' filled filled' words words' : ℕ) (out out' : List ℕ) → out' ≡ out → waiting' ≡ waiting → filled' ≡ filled → words' ≡ words → Packs (number_l 256 (take (4 * words) out)) total waiting filled words bits → Packs (number_l 256 (take (4 * words') out')) total waiting' filled' words' bits
packs_as total bits waiting waiting' filled filled' words words' out out' eo ea ef ew p =
    let O : List ℕ → Type 0 = λ o. Packs (number_l 256 (take (4 * words) o)) total waiting filled words bits in
    let A : ℕ → Type 0 = λ a. Packs (number_l 256 (take (4 * words) out')) total a filled words bits in
    let F : ℕ → Type 0 = λ f. Packs (number_l 256 (take (4 * words) out')) total waiting' f words bits in
    let W : ℕ → Type 0 = λ w. Packs (number_l 256 (take (4 * w) out')) total waiting' filled' w bits in
    subst W (sym ew) (subst F (sym ef) (subst A (sym ea) (subst O (sym eo) p)))

-- the words so far have room
pub words_few : (n total waiting filled words width index : ℕ) → index ≤ 128 → width ≤ 32 → Packs n total waiting filled words (index * width) → 4 * words ≤ 512
words_few n total waiting filled words width index few narrow p = omega (arith, p.fill, mul-le-mul_right width few)
