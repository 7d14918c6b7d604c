-- Positions that are known to be in their layout.
use Rattle.std.proofs.Common.{[], IsSome, List, None, Some, ap, ap₂, arith, drop, get_or, length, length-drop, length-take, refl, subst, suc, sym, take, zero, ◌*◌, ◌++◌, ◌<◌, ◌≡◌, ◌≤◌, ◌∙◌, ◌∷◌, ◌^◌, ℕ}
use Rattle.std.proofs.Math.Logic.{∥∥₁_elim}
use Rattle.std.proofs.Math.Seq.{drop-append_seam}
use Rattle.std.proofs.Props.{props}
use Rattle.std.proofs.lemmas.List.{take-append-drop}
use Rattle.common.proofs.DigitNumbers.{AreDigits}
use Rattle.common.proofs.TakenBack.{bytes_put}
use Rattle.codes.proofs.CheckedPositions.{small_drop}
use Rattle.codes.proofs.BlockPackings.{digits-take}
use Rattle.codes.proofs.UnpackedBlocks.{drop_drop, packed_is}
use Rattle.codes.proofs.PositionsOpened.{blocks_of, no_widths, rest_taken}
use Rattle.codes.specs.UnpackedBlocks.{listed, unpacked}
use Rattle.codes.specs.PositionBlocks.{AreSmall, HasBlocks, Holds, numbers_in, packed_len}
use Rattle.definitions.specs.NumberCodes.{AreBytes, sized_bytes, take_bytes}
use Rattle.layouts.specs.Positions.{AreBlocks, ArePositions}
use Rattle.layouts.specs.VintBlocks.{take_all_numbers}

digits-drop : (n : ℕ) (bs : List ℕ) → AreDigits 256 bs → AreDigits 256 (drop n bs)
digits-drop zero bs digits = digits
digits-drop (suc n) [] digits = digits
digits-drop (suc n) (b ∷ bs) digits = digits-drop n bs (λ i. digits (suc i))

-- blocks of these widths stand there
pub blocks_there : (ws numbers bs : List ℕ) → AreDigits 256 bs → AreBlocks ws numbers bs → AreSmall numbers → HasBlocks ws bs
blocks_there [] numbers bs digits blocks small = record { widths_fit = λ i. omega arith; room = omega arith; rest = subst IsSome (sym (rest_taken bs numbers blocks small)) refl }
blocks_there (w ∷ ws) numbers bs digits blocks small =
    let later = blocks_there ws (drop 128 numbers) (drop (16 * w) bs) (digits-drop (16 * w) bs digits) blocks.1 (small_drop 128 numbers small) in
    let long = blocks.0.packed.long in
    let room = later.room in
    record {
      widths_fit = fits later.widths_fit;
      room = omega (arith, long, room, length-take (16 * w) bs, length-drop (16 * w) bs);
      rest = subst (λ xs. IsSome (take_all_numbers 128 xs)) (drop_drop (16 * w) (packed_len ws) bs) later.rest;
    }
  where
    fits : ((i : ℕ) → get_or ws i 0 ≤ 32) → (i : ℕ) → get_or (w ∷ ws) i 0 ≤ 32
    fits after zero = blocks.0.width
    fits after (suc i) = after i

-- their numbers are those that are read
pub numbers_there : (ws numbers bs : List ℕ) → AreDigits 256 bs → AreBlocks ws numbers bs → AreSmall numbers → numbers_in ws bs ≡ numbers
numbers_there [] numbers bs digits blocks small = ap listed (rest_taken bs numbers blocks small)
numbers_there (w ∷ ws) numbers bs digits blocks small =
    let first : take 128 numbers ≡ unpacked w (take (16 * w) bs) = packed_is w (take 128 numbers) (take (16 * w) bs) (digits-take 256 (16 * w) bs digits) blocks.0.packed in
    let later = numbers_there ws (drop 128 numbers) (drop (16 * w) bs) (digits-drop (16 * w) bs digits) blocks.1 (small_drop 128 numbers small) in
    ap₂ (λ xs ys. xs ++ ys) (sym first) later ∙ take-append-drop 128 numbers

-- ---- from the bytes of a term

packed_digits : (bytes ws packed : List ℕ) → AreBytes bytes → take_bytes bytes ≡ Some (ws, packed) → AreDigits 256 packed
packed_digits bytes ws packed digits taken =
    let put : bytes ≡ sized_bytes ws ++ packed = (bytes_put bytes ws packed digits taken).1 in
    let behind : drop (length (sized_bytes ws)) bytes ≡ packed = ap (drop (length (sized_bytes ws))) put ∙ drop-append_seam (sized_bytes ws) packed in
    subst (AreDigits 256) behind (digits-drop (length (sized_bytes ws)) bytes digits)

pub there : (bytes ws packed : List ℕ) → length bytes < 2 ^ 64 → AreBytes bytes → take_bytes bytes ≡ Some (ws, packed) → (numbers : List ℕ) → ArePositions numbers bytes → HasBlocks ws packed
there bytes ws packed few digits taken numbers positions =
    let all = blocks_of bytes ws packed numbers few taken positions in
    blocks_there ws numbers packed (packed_digits bytes ws packed digits taken) all.0 all.1

pub read_there : (bytes ws packed : List ℕ) → length bytes < 2 ^ 64 → AreBytes bytes → take_bytes bytes ≡ Some (ws, packed) → (numbers : List ℕ) → ArePositions numbers bytes → numbers_in ws packed ≡ numbers
read_there bytes ws packed few digits taken numbers positions =
    let all = blocks_of bytes ws packed numbers few taken positions in
    numbers_there ws numbers packed (packed_digits bytes ws packed digits taken) all.0 all.1

HasBlocks-prop : (ws packed : List ℕ) → IsProp (HasBlocks ws packed)
HasBlocks-prop ws packed = hlevel props

pub merely_there : (bytes ws packed : List ℕ) → length bytes < 2 ^ 64 → AreBytes bytes → take_bytes bytes ≡ Some (ws, packed) → ∥ ((numbers : List ℕ) × ArePositions numbers bytes) ∥₁ → HasBlocks ws packed
merely_there bytes ws packed few digits taken known = ∥∥₁_elim known (HasBlocks-prop ws packed) (λ p. there bytes ws packed few digits taken p.0 p.1)

pub merely_taken : (bytes : List ℕ) → length bytes < 2 ^ 64 → take_bytes bytes ≡ None → ∥ ((numbers : List ℕ) × ArePositions numbers bytes) ∥₁ → ⊥
merely_taken bytes few none known = ∥∥₁_elim known (λ x y. absurd x) (λ p. no_widths bytes p.0 few none p.1)

-- the first block is held
pub first_held : (ws packed held : List ℕ) → HasBlocks ws packed → held ≡ take 128 (drop (128 * 0) (numbers_in ws packed)) → Holds ws packed held 0 0
first_held ws packed held blocks is = record { blocks = blocks; within = omega arith; offset = refl; numbers = is }
