-- Blocks: which bytes are one, and where a document stands in it.
use Rattle.std.proofs.Common.{ℕ, zero, suc, List, [], ◌∷◌, ◌++◌, ◌≡◌, ◌≤◌, ◌<◌, ◌+◌, ◌-◌, ◌*◌, ◌^◌, Bool, true, false, refl, sym, ap, ap₂, ◌∙◌, subst, arith, append_assoc, length, take, get_or, flat_map, length-append}
use Rattle.std.proofs.Common.{IsTrue, nat_eq, ◌↔◌}
use Rattle.std.proofs.lemmas.Bool.Decides.{nat_tests}
use Rattle.std.proofs.lemmas.List.{take_all}
use Rattle.std.proofs.lemmas.Nat.{from_le_bytes-to_le_bytes_4, le_bytes_4}
use Rattle.std.specs.Int.{from_le_bytes, w32}
use Rattle.std.specs.List.{concat, slice_range}
use Rattle.common.proofs.WordBytes.{front_bytes as bytes_left, back_bytes as bytes_right}
use Rattle.definitions.specs.NumberCodes.{AreBytes, u32_bytes}
use Rattle.layouts.specs.Stores.{IsBlock, starts}
use Rattle.store.specs.Reading.{IsBlockOf, are_starts, number_at, numbers}
use Rattle.store.proofs.Cuts.{AreSmall, append_same, are_starts_of, cut_at_starts, document_at, length_numbers, length_starts, number_among, number_past, numbers_back, numbers_put, start_at}

-- bytes in three parts: those of the documents, `count` starts, and a number
pub record InParts (bytes docs offsets last : List ℕ) (count : ℕ) : Type 0 where
  pub whole : bytes ≡ docs ++ (offsets ++ last)
  pub offsets_long : length offsets ≡ 4 * count
  pub last_long : length last ≡ 4

-- what the parts must be
abbrev pub AreParts : List ℕ → List ℕ → List ℕ → ℕ → Type 0
AreParts docs offsets last count = (number_at last 0 ≡ count) × (are_starts (length docs) (numbers offsets) ≡ true)

-- a number as its four cells
four_cells : (last : List ℕ) → length last ≡ 4 → number_at last 0 ≡ from_le_bytes w32 last
four_cells [] e = absurd (omega arith)
four_cells (a ∷ []) e = absurd (omega arith)
four_cells (a ∷ b ∷ []) e = absurd (omega arith)
four_cells (a ∷ b ∷ c ∷ []) e = absurd (omega arith)
four_cells (a ∷ b ∷ c ∷ d ∷ []) e = refl
four_cells (a ∷ b ∷ c ∷ d ∷ f ∷ last) e = absurd (omega arith)

last_put : (last : List ℕ) (count : ℕ) → length last ≡ 4 → AreBytes last → number_at last 0 ≡ count → (u32_bytes count ≡ last) × (count < 2 ^ 32)
last_put last count long bytes value =
    let is : count ≡ from_le_bytes w32 last = sym value ∙ four_cells last long in
    let below : from_le_bytes w32 last < 2 ^ 32 = omega (arith, bytes 0, bytes 1, bytes 2, bytes 3) in
    (le_bytes_4 last count long bytes is, subst (λ n. n < 2 ^ 32) (sym is) below)

-- ---- which bytes are a block

pub block_when : (bytes docs offsets last : List ℕ) (count : ℕ) → AreBytes bytes → InParts bytes docs offsets last count → AreParts docs offsets last count → (of : List (List ℕ)) × (length of ≡ count) × IsBlock of bytes
block_when bytes docs offsets last count small parts are =
    let inner : AreBytes (offsets ++ last) = bytes_right docs (offsets ++ last) (subst AreBytes parts.whole small) in
    let ends = last_put last count parts.last_long (bytes_right offsets last inner) are.0 in
    let put = numbers_put count offsets parts.offsets_long (bytes_left offsets last inner) in
    let made = cut_at_starts (numbers offsets) docs are.1 in
    let many : length made.0 ≡ count = sym (length_starts made.0 0) ∙ ap length made.2 ∙ put.1 in
    let spelled : flat_map u32_bytes (starts 0 made.0) ≡ offsets = ap (flat_map u32_bytes) made.2 ∙ put.0 in
    let number : u32_bytes (length made.0) ≡ last = ap u32_bytes many ∙ ends.0 in (
      made.0,
      many,
      record {
        bytes_are = parts.whole ∙ sym (append_assoc docs offsets last) ∙ ap₂ (λ xs ys. xs ++ ys) (ap₂ (λ xs ys. xs ++ ys) (sym made.1) (sym spelled)) (sym number);
        starts_fit = subst AreSmall (sym made.2) put.2;
        count_fits = subst (λ n. n < 2 ^ 32) (sym many) ends.1;
      },
    )

pub block_only : (bytes docs offsets last : List ℕ) (count : ℕ) → InParts bytes docs offsets last count → (of : List (List ℕ)) → length of ≡ count → IsBlock of bytes → AreParts docs offsets last count
block_only bytes docs offsets last count parts of many block =
    let spelled : List ℕ = flat_map u32_bytes (starts 0 of) in
    let number : List ℕ = u32_bytes (length of) in
    let long : length spelled ≡ 4 * count = length_numbers (starts 0 of) ∙ ap (λ n. 4 * n) (length_starts of 0 ∙ many) in
    let e : docs ++ (offsets ++ last) ≡ concat of ++ (spelled ++ number) = sym parts.whole ∙ block.bytes_are ∙ append_assoc (concat of) spelled number in
    let whole : length docs + (4 * count + 4) ≡ length (concat of) + (4 * count + 4) = omega (arith, parts.offsets_long, parts.last_long, long, length-append docs (offsets ++ last), length-append offsets last, length-append (concat of) (spelled ++ number), length-append spelled number, ap length e) in
    let first = append_same docs (offsets ++ last) (concat of) (spelled ++ number) e (omega arith) in
    let second = append_same offsets last spelled number first.1 (parts.offsets_long ∙ sym long) in
    let value : number_at (u32_bytes (length of)) 0 ≡ length of = from_le_bytes-to_le_bytes_4 (length of) block.count_fits in (
      ap (λ xs. number_at xs 0) second.1 ∙ value ∙ many,
      ap₂ (λ xs ys. are_starts (length xs) (numbers ys)) first.0 second.0 ∙ ap (are_starts (length (concat of))) (numbers_back (starts 0 of) block.starts_fit) ∙ are_starts_of of,
    )

-- ---- where a document stands

-- the starts of a block with documents
pub record BlockStarts (docs : List (List ℕ)) (bytes : List ℕ) : Type 0 where
  pub long : length bytes ≡ length (concat docs) + 4 * length docs + 4
  pub starts_at : (j : ℕ) → j < length docs → number_at bytes (length (concat docs) + 4 * j) ≡ length (concat (take j docs))
  pub within : (j : ℕ) → j < length docs → slice_range bytes (length (concat (take j docs))) (length (concat (take (suc j) docs))) ≡ get_or docs j []

pub places_of : (docs : List (List ℕ)) (bytes : List ℕ) → IsBlock docs bytes → BlockStarts docs bytes
places_of docs bytes block =
    let spelled : List ℕ = flat_map u32_bytes (starts 0 docs) in
    let number : List ℕ = u32_bytes (length docs) in
    let e : bytes ≡ concat docs ++ (spelled ++ number) = block.bytes_are ∙ append_assoc (concat docs) spelled number in
    let size : length spelled ≡ 4 * length docs = length_numbers (starts 0 docs) ∙ ap (λ n. 4 * n) (length_starts docs 0) in
    record {
      long = ap length e ∙ omega (arith, size, length-append (concat docs) (spelled ++ number), length-append spelled number);
      starts_at = λ j below. ap (λ xs. number_at xs (length (concat docs) + 4 * j)) e ∙ number_past (concat docs) (spelled ++ number) (4 * j) ∙ number_among (starts 0 docs) number j block.starts_fit (omega (arith, length_starts docs 0)) ∙ start_at docs 0 j below ∙ omega arith;
      within = λ j below. ap (λ xs. slice_range xs (length (concat (take j docs))) (length (concat (take (suc j) docs)))) e ∙ document_at docs j (spelled ++ number) below;
    }

-- ---- the answers of the code

-- the parts that were cut off, and what their test says
pub block_test : (bytes docs offsets last : List ℕ) (count : ℕ) (b : Bool) → AreBytes bytes → InParts bytes docs offsets last count → number_at last 0 ≡ count → are_starts (length docs) (numbers offsets) ≡ b → IsTrue b ↔ IsBlockOf count bytes
block_test bytes docs offsets last count true small parts number up = (λ h. block_when bytes docs offsets last count small parts (number, up), λ h. refl)
block_test bytes docs offsets last count false small parts number up = (λ h. cc, λ h. sym up ∙ (block_only bytes docs offsets last count parts h.0 h.1 h.2).1)

-- another number at the end
pub block_other : (bytes docs offsets last : List ℕ) (count n : ℕ) → InParts bytes docs offsets last count → number_at last 0 ≡ n → (n ≡ count → ⊥) → IsTrue (nat_eq n count) ↔ IsBlockOf count bytes
block_other bytes docs offsets last count n parts is other =
    (λ h. absurd (other (grind (arith, nat_tests, h))), λ h. absurd (other (sym is ∙ (block_only bytes docs offsets last count parts h.0 h.1 h.2).0)))

-- too few bytes
pub block_long : (bytes : List ℕ) (count : ℕ) → IsBlockOf count bytes → 4 * count + 4 ≤ length bytes
block_long bytes count h = (let long = (places_of h.0 bytes h.2).long in let many = h.1 in omega arith)

pub concat_grows : (docs : List (List ℕ)) (j : ℕ) → (length (concat (take j docs)) ≤ length (concat (take (suc j) docs))) × (length (concat (take (suc j) docs)) ≤ length (concat docs))
concat_grows [] zero = (omega arith, omega arith)
concat_grows [] (suc j) = (omega arith, omega arith)
concat_grows (doc ∷ docs) zero = (omega arith, omega (arith, length-append doc [], length-append doc (concat docs)))
concat_grows (doc ∷ docs) (suc j) =
    let rest = concat_grows docs j in
    (omega (arith, rest.0, length-append doc (concat (take j docs)), length-append doc (concat (take (suc j) docs))), omega (arith, rest.1, length-append doc (concat (take (suc j) docs)), length-append doc (concat docs)))

-- where a document stands
pub record IsSlot (docs : List (List ℕ)) (bytes : List ℕ) (at start end : ℕ) : Type 0 where
  pub order : start ≤ end
  pub inside : end ≤ length bytes
  pub slot : slice_range bytes start end ≡ get_or docs at []

slot_of : (docs : List (List ℕ)) (bytes : List ℕ) (at start end : ℕ) → BlockStarts docs bytes → at < length docs → start ≡ length (concat (take at docs)) → end ≡ length (concat (take (suc at) docs)) → IsSlot docs bytes at start end
slot_of docs bytes at start end offsets below s e =
    let grows = concat_grows docs at in
    let long = offsets.long in
    record {
      order = omega (arith, grows.0);
      inside = omega (arith, grows.1);
      slot = ap₂ (slice_range bytes) s e ∙ offsets.within at below;
    }

-- where a document starts, as the code reads it
pub start_read : (docs : List (List ℕ)) (bytes : List ℕ) (count at start offset : ℕ) → length docs ≡ count → IsBlock docs bytes → at < count → offset ≡ length bytes - 4 - 4 * count + 4 * at → start ≡ number_at bytes offset → start ≡ length (concat (take at docs))
start_read docs bytes count at start offset many block below is s =
    let offsets = places_of docs bytes block in
    let long = offsets.long in
    let e : offset ≡ length (concat docs) + 4 * at = omega arith in
    s ∙ ap (number_at bytes) e ∙ offsets.starts_at at (omega arith)

pub slot_then : (docs : List (List ℕ)) (bytes : List ℕ) (count at start end : ℕ) → length docs ≡ count → IsBlock docs bytes → at + 1 < count → start ≡ number_at bytes (length bytes - 4 - 4 * count + 4 * at) → end ≡ number_at bytes (length bytes - 4 - 4 * count + 4 * at + 4) → IsSlot docs bytes at start end
slot_then docs bytes count at start end many block below s e =
    slot_of docs bytes at start end (places_of docs bytes block) (omega arith) (start_read docs bytes count at start _ many block (omega arith) refl s) (start_read docs bytes count (suc at) end _ many block (omega arith) (omega arith) e)

pub slot_else : (docs : List (List ℕ)) (bytes : List ℕ) (count at start : ℕ) → length docs ≡ count → IsBlock docs bytes → at < count → count ≤ at + 1 → start ≡ number_at bytes (length bytes - 4 - 4 * count + 4 * at) → IsSlot docs bytes at start (length bytes - 4 - 4 * count)
slot_else docs bytes count at start many block below last s =
    let offsets = places_of docs bytes block in
    let long = offsets.long in
    let all : take (suc at) docs ≡ docs = take_all (suc at) docs (omega arith) in
    slot_of docs bytes at start (length bytes - 4 - 4 * count) offsets (omega arith) (start_read docs bytes count at start _ many block below refl s) (omega (arith, ap (λ ds. length (concat ds)) all))
