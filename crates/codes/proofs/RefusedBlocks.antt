-- What is read out of a block decides whether it is in the layout.
use Rattle.std.proofs.Common.{ℕ, List, ◌≡◌, ◌≤◌, ◌<◌, ◌^◌, sym, ap, ◌∙◌, arith, get_or, length, length-take, subst, take, take_all}
use Rattle.codes.proofs.BlockPackings.{one_reading}
use Rattle.codes.proofs.StrictDeltaSums.{ascending-documents, deltas-documents, documents-deltas, length-deltas}
use Rattle.layouts.specs.Deltas.{IsAscendingFrom, deltas, documents, next_of}
use Rattle.layouts.specs.PackedBlocks.{IsBlock, IsLeastWidth, IsPacked, IsSortedBlock}

-- the numbers that were read need another width than the block's
pub other_width : (w v : ℕ) (read numbers bytes : List ℕ) → IsPacked w read bytes → ((i : ℕ) → get_or read i 0 < 2 ^ v) → IsLeastWidth v read → IsBlock w numbers bytes → v ≡ w
other_width w v read numbers bytes packed holds least block =
    let same : read ≡ numbers = one_reading w read numbers bytes packed block.packed in
    let P : List ℕ → Type 0 = λ xs. (i : ℕ) → get_or xs i 0 < 2 ^ v in
    omega (arith, least w packed.small, block.least v (subst P same holds))

-- a document that was summed is past 32 bits
pub past_documents : (offset w i : ℕ) (read docs bytes : List ℕ) → IsPacked w read bytes → 2 ^ 32 ≤ get_or (documents (next_of offset) read) i 0 → IsSortedBlock offset w docs bytes → ⊥
past_documents offset w i read docs bytes packed past block =
    let same : read ≡ deltas (next_of offset) docs = one_reading w read (deltas (next_of offset) docs) bytes packed block.block.packed in
    let whole : documents (next_of offset) read ≡ docs = ap (λ xs. documents (next_of offset) xs) same ∙ documents-deltas (next_of offset) docs block.ascending in
    let here = ap (λ xs. get_or xs i 0) whole in
    omega (arith, past, block.small i)

-- the documents that were summed are those of the block
pub sorted_read : (offset w len : ℕ) (output read docs bytes : List ℕ) → read ≡ take len output → IsBlock w (take len output) bytes → docs ≡ documents (next_of offset) read → ((i : ℕ) → get_or docs i 0 < 2 ^ 32) → IsSortedBlock offset w (take len docs) bytes
sorted_read offset w len output read docs bytes is block summed small =
    let back : deltas (next_of offset) docs ≡ take len output = ap (λ ds. deltas (next_of offset) ds) summed ∙ deltas-documents (next_of offset) read ∙ is in
    let count : length docs ≡ length (take len output) = sym (length-deltas (next_of offset) docs) ∙ ap (λ xs. length xs) back in
    let whole : take len docs ≡ docs = take_all len docs (omega (arith, count, length-take len output)) in
    let A : List ℕ → Type 0 = λ ds. IsAscendingFrom (next_of offset) ds in
    let B : List ℕ → Type 0 = λ xs. IsBlock w xs bytes in
    let S : List ℕ → Type 0 = λ ds. IsSortedBlock offset w ds bytes in
    subst S (sym whole) (record {
      ascending = subst A (sym summed) (ascending-documents (next_of offset) read);
      small = small;
      block = subst B (sym back) block;
    })

-- there are 128 of them
pub sorted_count : (offset w : ℕ) (docs bytes : List ℕ) → IsSortedBlock offset w docs bytes → length docs ≡ 128
sorted_count offset w docs bytes block = sym (length-deltas (next_of offset) docs) ∙ block.block.packed.count
