-- Blocks that are checked one after another.
use Rattle.std.proofs.Common.{[], Bool, List, add-one, ap, arith, drop, drop-cons, false, get_or, length, length-drop, length-take, nat_lt, refl, subst, suc, sym, take, true, zero, ◌*◌, ◌++◌, ◌+◌, ◌-◌, ◌<◌, ◌≡◌, ◌≤◌, ◌∙◌, ◌∷◌, ◌^◌, ℕ}
use Rattle.std.proofs.Math.Pow.{pow_mono}
use Rattle.std.proofs.Math.Seq.{drop-append_seam, take-append_seam}
use Rattle.std.proofs.lemmas.Bool.Decides.{nat_tests}
use Rattle.std.proofs.lemmas.List.{get_or-drop, take_rest}
use Rattle.common.proofs.DigitNumbers.{AreDigits}
use Rattle.codes.proofs.BlockPackings.{digits-take}
use Rattle.codes.proofs.UnpackedBlocks.{drop_drop, packed_is, unpacked_count}
use Rattle.codes.proofs.PositionBlocks.{next_offset}
use Rattle.codes.specs.UnpackedBlocks.{unpacked}
use Rattle.codes.specs.PositionBlocks.{AreSmall, numbers_in, packed_len}
use Rattle.layouts.specs.PackedBlocks.{IsBlock}
use Rattle.layouts.specs.Positions.{AreBlocks}

-- the blocks up to one are checked, and what is left decides
pub record Checked (ws packed : List ℕ) (i at : ℕ) : Type 0 where
  pub fit : (k : ℕ) → k < i → get_or ws k 0 ≤ 31
  pub offset : at ≡ packed_len (take i ws)
  pub room : at ≤ length packed
  pub sound : AreBlocks (drop i ws) (numbers_in (drop i ws) (drop at packed)) (drop at packed) → AreSmall (numbers_in (drop i ws) (drop at packed)) → AreBlocks ws (numbers_in ws packed) packed × AreSmall (numbers_in ws packed)
  pub complete : (numbers : List ℕ) → AreBlocks ws numbers packed → AreSmall numbers → AreBlocks (drop i ws) (drop (128 * i) numbers) (drop at packed) × AreSmall (drop (128 * i) numbers)

small_append : (xs ys : List ℕ) → AreSmall xs → AreSmall ys → AreSmall (xs ++ ys)
small_append [] ys first last i = last i
small_append (x ∷ xs) ys first last zero = first 0
small_append (x ∷ xs) ys first last (suc i) = small_append xs ys (λ k. first (suc k)) last i

pub small_drop : (n : ℕ) (xs : List ℕ) → AreSmall xs → AreSmall (drop n xs)
small_drop n xs small i = subst (λ m. m < 2 ^ 31) (sym (get_or-drop n xs i 0)) (small (n + i))

small_take : (n : ℕ) (xs : List ℕ) → AreSmall xs → AreSmall (take n xs)
small_take zero xs small i = omega arith
small_take (suc n) [] small i = omega arith
small_take (suc n) (x ∷ xs) small zero = small 0
small_take (suc n) (x ∷ xs) small (suc i) = small_take n xs (λ k. small (suc k)) i

-- a block before others
block_first : (w : ℕ) (ws bs held : List ℕ) → AreDigits 256 bs → w ≤ 31 → IsBlock w held (take (16 * w) bs) → AreBlocks ws (numbers_in ws (drop (16 * w) bs)) (drop (16 * w) bs) → AreSmall (numbers_in ws (drop (16 * w) bs)) → AreBlocks (w ∷ ws) (numbers_in (w ∷ ws) bs) bs × AreSmall (numbers_in (w ∷ ws) bs)
block_first w ws bs held digits few block blocks small =
    let first = unpacked w (take (16 * w) bs) in
    let others = numbers_in ws (drop (16 * w) bs) in
    let is : held ≡ first = packed_is w held (take (16 * w) bs) (digits-take 256 (16 * w) bs digits) block.packed in
    let count : length first ≡ 128 = unpacked_count w (take (16 * w) bs) in
    let front : take 128 (first ++ others) ≡ held = ap (λ k. take k (first ++ others)) (sym count) ∙ take-append_seam first others ∙ sym is in
    let back : drop 128 (first ++ others) ≡ others = ap (λ k. drop k (first ++ others)) (sym count) ∙ drop-append_seam first others in
    let below : AreSmall held = (λ i. (let h = block.packed.small i in let most : 2 ^ w ≤ 2 ^ 31 = pow_mono few in omega arith)) in (
      (subst (λ xs. IsBlock w xs (take (16 * w) bs)) (sym front) block, subst (λ xs. AreBlocks ws xs (drop (16 * w) bs)) (sym back) blocks),
      small_append first others (subst AreSmall is below) small,
    )

-- the widths from one on
widths_from : (ws : List ℕ) (i : ℕ) → i < length ws → drop i ws ≡ get_or ws i 0 ∷ drop (i + 1) ws
widths_from ws i within = drop-cons ws i 0 within ∙ ap (λ k. get_or ws i 0 ∷ drop k ws) (sym (add-one i))

-- one block more
pub block_checked : (ws packed held : List ℕ) (i at : ℕ) → AreDigits 256 packed → Checked ws packed i at → i < length ws → get_or ws i 0 ≤ 31 → IsBlock (get_or ws i 0) held (take (16 * get_or ws i 0) (take (length packed - at) (drop at packed))) → Checked ws packed (i + 1) (at + 16 * get_or ws i 0)
block_checked ws packed held i at digits checked within few read =
    let w = get_or ws i 0 in
    let bs = drop at packed in
    let block : IsBlock w held (take (16 * w) bs) = subst (λ xs. IsBlock w held (take (16 * w) xs)) (take_rest packed at) read in
    let next : drop (16 * w) bs ≡ drop (at + 16 * w) packed = drop_drop at (16 * w) packed in
    let long : length (take (16 * w) bs) ≡ 16 * w = block.packed.long in
    let offset = checked.offset in
    let room = checked.room in
    record {
      fit = λ k h. fit k h (nat_lt k i) refl;
      offset = ap (λ p. p + 16 * w) offset ∙ sym (next_offset ws i within);
      room = omega (arith, length-take (16 * w) bs, length-drop at packed);
      sound = λ blocks small.
          (let P : List ℕ → Type 0 = λ xs. AreBlocks (drop (i + 1) ws) (numbers_in (drop (i + 1) ws) xs) xs in
          let S : List ℕ → Type 0 = λ xs. AreSmall (numbers_in (drop (i + 1) ws) xs) in
          let all = block_first w (drop (i + 1) ws) bs held (digits_from at packed digits) few block (subst P (sym next) blocks) (subst S (sym next) small) in
          let Q : List ℕ → Type 0 = λ vs. AreBlocks vs (numbers_in vs bs) bs in
          let R : List ℕ → Type 0 = λ vs. AreSmall (numbers_in vs bs) in
          checked.sound (subst Q (sym (widths_from ws i within)) all.0) (subst R (sym (widths_from ws i within)) all.1));
      complete = λ numbers blocks small.
          (let all = checked.complete numbers blocks small in
          let Q : List ℕ → Type 0 = λ vs. AreBlocks vs (drop (128 * i) numbers) bs in
          let here = subst Q (widths_from ws i within) all.0 in
          let from : drop 128 (drop (128 * i) numbers) ≡ drop (128 * (i + 1)) numbers = drop_drop (128 * i) 128 numbers ∙ ap (λ k. drop k numbers) (omega arith) in
          let P : List ℕ → Type 0 = λ xs. AreBlocks (drop (i + 1) ws) xs (drop (16 * w) bs) in
          let O : List ℕ → Type 0 = λ xs. AreBlocks (drop (i + 1) ws) (drop (128 * (i + 1)) numbers) xs in
          (subst O next (subst P from here.1), small_drop (128 * (i + 1)) numbers small));
    }
  where
    digits_from : (n : ℕ) (xs : List ℕ) → AreDigits 256 xs → AreDigits 256 (drop n xs)
    digits_from n xs d k = subst (λ m. m < 256) (sym (get_or-drop n xs k 0)) (d (n + k))

    fit : (k : ℕ) → k < i + 1 → (t : Bool) → nat_lt k i ≡ t → get_or ws k 0 ≤ 31
    fit k h true e = (let before : k < i = grind (arith, nat_tests) in checked.fit k before)
    fit k h false e = (let here : i ≡ k = grind (arith, nat_tests) in subst (λ n. get_or ws n 0 ≤ 31) here few)

-- a width over 31
pub no_width : (ws packed : List ℕ) (i at : ℕ) → Checked ws packed i at → i < length ws → 31 < get_or ws i 0 → (numbers : List ℕ) → AreBlocks ws numbers packed → AreSmall numbers → ⊥
no_width ws packed i at checked within many numbers blocks small =
    let w = get_or ws i 0 in
    let all = checked.complete numbers blocks small in
    let Q : List ℕ → Type 0 = λ vs. AreBlocks vs (drop (128 * i) numbers) (drop at packed) in
    let here = subst Q (widths_from ws i within) all.0 in
    let least = here.0.least 31 (small_take 128 (drop (128 * i) numbers) all.1) in
    omega arith
