-- The numbers of blocks, block by block.
use Rattle.std.proofs.Common.{[], IsSome, List, Some, add-one, ap, arith, drop, get_or, length, refl, subst, suc, sym, take, take_all, zero, ◌*◌, ◌++◌, ◌+◌, ◌-◌, ◌<◌, ◌≡◌, ◌≤◌, ◌∙◌, ◌∷◌, ℕ}
use Rattle.std.proofs.Math.Seq.{drop-append-add, take-append_seam}
use Rattle.std.proofs.lemmas.List.{take_rest}
use Rattle.common.proofs.DigitNumbers.{AreDigits}
use Rattle.codes.proofs.VintListLaws.{all_stood}
use Rattle.codes.proofs.BlockPackings.{digits-take}
use Rattle.codes.proofs.UnpackedBlocks.{drop_drop, packed_is, unpacked_count}
use Rattle.codes.proofs.BitWindows.{digits-drop}
use Rattle.codes.specs.UnpackedBlocks.{listed, unpacked}
use Rattle.codes.specs.PositionBlocks.{numbers_in, packed_len}
use Rattle.layouts.specs.PackedBlocks.{IsPacked}
use Rattle.layouts.specs.VintBlocks.{take_all_numbers}

-- the offset of the block after
next_suc : (i : ℕ) (ws : List ℕ) → i < length ws → packed_len (take (suc i) ws) ≡ packed_len (take i ws) + 16 * get_or ws i 0
next_suc i [] within = absurd (omega arith)
next_suc zero (w ∷ ws) within = omega arith
next_suc (suc i) (w ∷ ws) within = (let later = next_suc i ws (omega arith) in omega arith)

pub next_offset : (ws : List ℕ) (i : ℕ) → i < length ws → packed_len (take (i + 1) ws) ≡ packed_len (take i ws) + 16 * get_or ws i 0
next_offset ws i within = ap (λ k. packed_len (take k ws)) (add-one i) ∙ next_suc i ws within

-- a block ends where the blocks do, or before
pub offset_within : (ws : List ℕ) (i : ℕ) → i < length ws → packed_len (take i ws) + 16 * get_or ws i 0 ≤ packed_len ws
offset_within [] i within = absurd (omega arith)
offset_within (w ∷ ws) zero within = omega arith
offset_within (w ∷ ws) (suc i) within = (let later = offset_within ws i (omega arith) in omega arith)

pub offset_at_most : (ws : List ℕ) (i : ℕ) → packed_len (take i ws) ≤ packed_len ws
offset_at_most ws zero = omega arith
offset_at_most [] (suc i) = omega arith
offset_at_most (w ∷ ws) (suc i) = (let later = offset_at_most ws i in omega arith)

-- the numbers of the blocks after the first
after_first : (w : ℕ) (ws bytes : List ℕ) (n : ℕ) → drop (128 + n) (numbers_in (w ∷ ws) bytes) ≡ drop n (numbers_in ws (drop (16 * w) bytes))
after_first w ws bytes n =
    let block = unpacked w (take (16 * w) bytes) in
    let rest = numbers_in ws (drop (16 * w) bytes) in
    ap (λ k. drop (k + n) (block ++ rest)) (sym (unpacked_count w (take (16 * w) bytes))) ∙ drop-append-add block rest n

-- the numbers of a block
pub block_numbers : (ws bytes : List ℕ) (i : ℕ) → i < length ws → take 128 (drop (128 * i) (numbers_in ws bytes)) ≡ unpacked (get_or ws i 0) (take (16 * get_or ws i 0) (drop (packed_len (take i ws)) bytes))
block_numbers [] bytes i within = absurd (omega arith)
block_numbers (w ∷ ws) bytes zero within =
    let block = unpacked w (take (16 * w) bytes) in
    let rest = numbers_in ws (drop (16 * w) bytes) in
    ap (λ k. take k (block ++ rest)) (sym (unpacked_count w (take (16 * w) bytes))) ∙ take-append_seam block rest
block_numbers (w ∷ ws) bytes (suc i) within =
    let next : 128 * suc i ≡ 128 + 128 * i = omega arith in
    ap (λ k. take 128 (drop k (numbers_in (w ∷ ws) bytes))) next
    ∙ ap (take 128) (after_first w ws bytes (128 * i))
    ∙ block_numbers ws (drop (16 * w) bytes) i (omega arith)
    ∙ ap (λ bs. unpacked (get_or ws i 0) (take (16 * get_or ws i 0) bs)) (drop_drop (16 * w) (packed_len (take i ws)) bytes)

-- the numbers behind the blocks
pub rest_numbers : (ws bytes : List ℕ) → drop (128 * length ws) (numbers_in ws bytes) ≡ listed (take_all_numbers 128 (drop (packed_len ws) bytes))
rest_numbers [] bytes = refl
rest_numbers (w ∷ ws) bytes =
    let next : 128 * length (w ∷ ws) ≡ 128 + 128 * length ws = omega arith in
    ap (λ k. drop k (numbers_in (w ∷ ws) bytes)) next
    ∙ after_first w ws bytes (128 * length ws)
    ∙ rest_numbers ws (drop (16 * w) bytes)
    ∙ ap (λ bs. listed (take_all_numbers 128 bs)) (drop_drop (16 * w) (packed_len ws) bytes)

-- a block that was read
pub block_decoded : (ws packed held : List ℕ) (i at : ℕ) → AreDigits 256 packed → at ≡ packed_len (take i ws) → i < length ws → IsPacked (get_or ws i 0) held (take (16 * get_or ws i 0) (take (length packed - at) (drop at packed))) → held ≡ take 128 (drop (128 * i) (numbers_in ws packed))
block_decoded ws packed held i at digits offset within read =
    let w = get_or ws i 0 in
    let bytes : take (length packed - at) (drop at packed) ≡ drop (packed_len (take i ws)) packed = take_rest packed at ∙ ap (λ k. drop k packed) offset in
    packed_is w held (take (16 * w) (drop (packed_len (take i ws)) packed)) (digits-take 256 (16 * w) (drop (packed_len (take i ws)) packed) (digits-drop 256 (packed_len (take i ws)) packed digits)) (subst (λ bs. IsPacked w held (take (16 * w) bs)) bytes read)
    ∙ sym (block_numbers ws packed i within)

-- the rest that was read
pub rest_decoded : (ws packed held : List ℕ) (i at : ℕ) → AreDigits 256 packed → at ≡ packed_len (take i ws) → i ≤ length ws → length ws ≤ i → take_all_numbers 128 (take (length packed - at) (drop at packed)) ≡ Some held → held ≡ take 128 (drop (128 * i) (numbers_in ws packed))
rest_decoded ws packed held i at digits offset within last read =
    let all : i ≡ length ws = omega arith in
    let whole : take i ws ≡ ws = take_all i ws (omega arith) in
    let end : at ≡ packed_len ws = offset ∙ ap packed_len whole in
    let bytes : take (length packed - at) (drop at packed) ≡ drop (packed_len ws) packed = take_rest packed at ∙ ap (λ k. drop k packed) end in
    let here : take_all_numbers 128 (drop (packed_len ws) packed) ≡ Some held = subst (λ bs. take_all_numbers 128 bs ≡ Some held) bytes read in
    let digits_left = digits-drop 256 (packed_len ws) packed digits in
    let few : length held ≤ 128 = (all_stood 128 (drop (packed_len ws) packed) held digits_left here).0 in
    sym (take_all 128 held few)
    ∙ ap (λ o. take 128 (listed o)) (sym here)
    ∙ ap (take 128) (sym (rest_numbers ws packed))
    ∙ ap (λ k. take 128 (drop (128 * k) (numbers_in ws packed))) (sym all)

pub rest_listed : (ws packed : List ℕ) (i at : ℕ) → at ≡ packed_len (take i ws) → length ws ≤ i → IsSome (take_all_numbers 128 (drop (packed_len ws) packed)) → IsSome (take_all_numbers 128 (take (length packed - at) (drop at packed)))
rest_listed ws packed i at offset last some =
    let whole : take i ws ≡ ws = take_all i ws last in
    let end : packed_len ws ≡ at = sym (offset ∙ ap packed_len whole) in
    subst (λ bs. IsSome (take_all_numbers 128 bs)) (ap (λ k. drop k packed) end ∙ sym (take_rest packed at)) some
