-- The lists of blocks: documents that ascend, and what is decoded of them.
use Rattle.std.proofs.Common.{[], Bool, List, Some, ap, arith, drop, false, get_or, length, length-take, refl, replicate, set, suc, sym, take, true, zero, ◌*◌, ◌++◌, ◌+◌, ◌-◌, ◌<◌, ◌≡◌, ◌≤◌, ◌∙◌, ◌∷◌, ◌^◌, ℕ}
use Rattle.std.proofs.lemmas.List.{drop-replicate, length-map, map-append, take_more, take_more_set}
use Rattle.codes.proofs.BlockPackings.{digits-take, fields_are_packed}
use Rattle.codes.proofs.UnpackedBlocks.{unpacked_count, unpacked_field}
use Rattle.codes.proofs.VintListLaws.{length-documents}
use Rattle.codes.specs.UnpackedBlocks.{unpacked}
use Rattle.common.proofs.DigitNumbers.{AreDigits}
use Rattle.layouts.specs.Deltas.{next_of}
use Rattle.layouts.specs.PackedBlocks.{IsPacked}
use Rattle.layouts.specs.VintBlocks.{take_documents, take_numbers}
use Rattle.segment_postings.specs.Blocks.{more_1}
use Rattle.segment_postings.specs.Reading.{Ascends, block_counts, block_docs, found, rest_counts, rest_docs}

pub length-block_docs : (before w : ℕ) (bytes : List ℕ) → length (block_docs before w bytes) ≡ 128
length-block_docs before w bytes = length-documents (next_of before) (unpacked w (take (16 * w) bytes)) ∙ unpacked_count w (take (16 * w) bytes)

pub length-block_counts : (reads : Bool) (w : ℕ) (bytes : List ℕ) → length (block_counts reads w bytes) ≡ 128
length-block_counts true w bytes = length-map (unpacked w (take (16 * w) bytes)) (λ n. n + 1) ∙ unpacked_count w (take (16 * w) bytes)
length-block_counts false w bytes = refl

-- the numbers of a block are packed in its bytes
pub unpacked_packed : (w : ℕ) (bytes : List ℕ) → AreDigits 256 bytes → 16 * w ≤ length bytes → IsPacked w (unpacked w (take (16 * w) bytes)) (take (16 * w) bytes)
unpacked_packed w bytes digits room = fields_are_packed w (unpacked w (take (16 * w) bytes)) (take (16 * w) bytes) (unpacked_count w (take (16 * w) bytes)) (omega (arith, length-take (16 * w) bytes)) (digits-take 256 (16 * w) bytes digits) (unpacked_field w (take (16 * w) bytes))

pub at_more_1 : (xs : List ℕ) (i : ℕ) → i < length xs → get_or (more_1 xs) i 0 ≡ get_or xs i 0 + 1
at_more_1 [] i within = absurd (omega arith)
at_more_1 (x ∷ xs) zero within = refl
at_more_1 (x ∷ xs) (suc i) within = at_more_1 xs i (omega arith)

-- one more number is put
pub put_more_1 : (numbers counts : List ℕ) (i n : ℕ) → take i counts ≡ more_1 (take i numbers) → i < length numbers → i < length counts → n ≡ get_or numbers i 0 + 1 → take (i + 1) (set counts i n) ≡ more_1 (take (i + 1) numbers)
put_more_1 numbers counts i n told within room is =
    take_more_set counts i n room
    ∙ (ap (λ xs. xs ++ n ∷ []) told
    ∙ (ap (λ x. more_1 (take i numbers) ++ x ∷ []) is
    ∙ (sym (map-append (λ k. k + 1) (take i numbers) (get_or numbers i 0 ∷ []))
    ∙ ap more_1 (sym (take_more numbers i 0 within)))))

-- numbers whose counts fit have room for one more
pub room_for_1 : (xs : List ℕ) (i : ℕ) → i < length xs → ((k : ℕ) → get_or (more_1 xs) k 0 < 2 ^ 32) → get_or xs i 0 + 1 < 2 ^ 32
room_for_1 xs i within fit = (let h = fit i in let at = at_more_1 xs i within in omega (arith, h, at))

-- ---- the rest

pub docs_found : (before n : ℕ) (bytes docs rest : List ℕ) → take_documents before n bytes ≡ Some (docs, rest) → (rest_docs before n bytes ≡ docs) × ((found (take_documents before n bytes)).1 ≡ rest)
docs_found before n bytes docs rest is = (ap (λ o. (found o).0) is, ap (λ o. (found o).1) is)

pub counts_found : (n : ℕ) (bytes numbers rest : List ℕ) → take_numbers n bytes ≡ Some (numbers, rest) → rest_counts true n bytes ≡ more_1 numbers
counts_found n bytes numbers rest is = ap (λ o. more_1 (found o).0) is

pub docs_padded : (n : ℕ) (docs numbers : List ℕ) → docs ≡ replicate 128 2147483647 → n ≤ 128 → numbers ++ drop n docs ≡ numbers ++ replicate (128 - n) 2147483647
docs_padded n docs numbers is few = ap (λ xs. numbers ++ drop n xs) is ∙ ap (λ xs. numbers ++ xs) (drop-replicate n 128 2147483647)

-- ---- ascending documents

pub few_ascend : (low : ℕ) (docs : List ℕ) → Ascends low docs → length docs ≤ 2147483647 - low
few_ascend low [] a = omega arith
few_ascend low (d ∷ ds) a = let ih = few_ascend (d + 1) ds a.2 in omega (arith, ih, a.0, a.1)
