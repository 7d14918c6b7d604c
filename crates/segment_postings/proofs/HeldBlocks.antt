-- Blocks that are held, and what is known of those that can be read.
use Rattle.std.proofs.Common.{[], Bool, IsSome, List, ap, append-nil, arith, drop, false, get_or, length, length-append, length-take, min, refl, replicate, subst, sym, take, take_all, true, ◌*◌, ◌++◌, ◌+◌, ◌-◌, ◌<◌, ◌≡◌, ◌≤◌, ◌∙◌, ◌∷◌, ◌^◌, ◌⊎◌, inl, inr, ℕ}
use Rattle.std.proofs.lemmas.Bool.{cases_lt}
use Rattle.std.proofs.lemmas.List.{get_or-append_right, get_or-replicate, get_or-take, get_or_append_left, get_or_default, get_or_past}
use Rattle.codes.proofs.AscendingNumbers.{ascends_apart}
use Rattle.codes.proofs.StrictDeltaSums.{ascending-documents}
use Rattle.codes.specs.UnpackedBlocks.{unpacked}
use Rattle.definitions.specs.Postings.{terminated}
use Rattle.layouts.specs.Deltas.{IsAscendingFrom, next_of}
use Rattle.layouts.specs.SkipEntries.{SkipEntry}
use Rattle.layouts.specs.VintBlocks.{take_documents, take_numbers}
use Rattle.segment_postings.proofs.BlockLists.{length-block_counts, length-block_docs}
use Rattle.segment_postings.specs.Reading.{AreReadable, IsHeld, IsSummed, block_counts, block_docs, counts_in, docs_in, found, rest_counts, rest_docs}
use Rattle.segment_postings.proofs.Lists.{first_of}
use Rattle.codes.specs.SkipBlocks.{block_size, info_of}
use Rattle.codes.specs.declared.skip_reader.BlockInfo.{BlockInfo}
use Rattle.codes.specs.declared.skip_reader.BlockInfo.TheVariants.{BitPacked, VInt}

-- ---- what a block's info tells

abbrev pub widths : BlockInfo → ℕ × ℕ
widths (BitPacked w v a b c) = (w, v)
widths (VInt n) = (0, 0)

abbrev pub many : BlockInfo → ℕ
many (BitPacked w v a b c) = 0
many (VInt n) = n

abbrev pub is_rest : BlockInfo → Bool
is_rest (BitPacked w v a b c) = false
is_rest (VInt n) = true

-- ---- a full block

-- none of its documents is above the last
none_above : (docs : List ℕ) (next i : ℕ) → IsAscendingFrom next docs → length docs ≡ 128 → get_or docs i 0 ≤ get_or docs 127 0
none_above docs next i ascends long = go (cases_lt i 127)
  where
    go : (i < 127) ⊎ (127 ≤ i) → get_or docs i 0 ≤ get_or docs 127 0
    go (inl before) = (let apart = ascends_apart next docs i 127 ascends before (omega arith) in omega (arith, apart))
    go (inr beyond) = past (cases_lt 127 i)
      where
        past : (127 < i) ⊎ (i ≤ 127) → get_or docs i 0 ≤ get_or docs 127 0
        past (inl more) = (let none = get_or_past docs i 0 (omega arith) in omega (arith, none))
        past (inr least) = (let same : i ≡ 127 = omega arith in subst (λ k. get_or docs k 0 ≤ get_or docs 127 0) (sym same) (omega arith))

pub none_above_last : (before w : ℕ) (bytes : List ℕ) (i : ℕ) → get_or (block_docs before w bytes) i 0 ≤ get_or (block_docs before w bytes) 127 0
none_above_last before w bytes i = none_above (block_docs before w bytes) (next_of before) i (ascending-documents (next_of before) (unpacked w (take (16 * w) bytes))) (length-block_docs before w bytes)

-- what is known of a block that its info says is full
pub record Full (reads : Bool) (before w v : ℕ) (block : List ℕ) : Type 0 where
  pub doc_width : w ≤ 32
  pub count_width : v ≤ 32
  pub room : 16 * w + 16 * v ≤ length block
  pub small : (i : ℕ) → get_or (block_docs before w block) i 0 < 2 ^ 32
  pub counts_fit : (i : ℕ) → get_or (block_counts reads v (drop (16 * w) block)) i 0 < 2 ^ 32

pub full_readable : (reads sums : Bool) (before : ℕ) (left : List SkipEntry) (n : ℕ) (block : List ℕ) (w v a b c : ℕ) → AreReadable reads sums before left n block → info_of left n ≡ BitPacked w v a b c → Full reads before w v block
full_readable reads sums before [] n block w v a b c readable info = absurd (let e : true ≡ false = ap is_rest info in cc)
full_readable reads sums before (e ∷ es) n block w v a b c readable info =
    let same = ap widths info in
    let small : (i : ℕ) → get_or (block_docs before e.doc_width block) i 0 < 2 ^ 32 = λ i. (let most = none_above_last before e.doc_width block i in let last = readable.0.last in let few = readable.0.small in omega (arith, most, last, few)) in
    let full : Full reads before e.doc_width e.count_width block = record { doc_width = readable.0.doc_width; count_width = readable.0.count_width; room = readable.0.room; small = small; counts_fit = readable.0.counts_fit } in
    subst (λ (p : ℕ × ℕ). Full reads before p.0 p.1 block) same full

pub held_full : (reads : Bool) (before : ℕ) (left : List SkipEntry) (n : ℕ) (block docs counts : List ℕ) (w v a b c : ℕ) → info_of left n ≡ BitPacked w v a b c → docs ≡ block_docs before w block → counts ≡ block_counts reads v (drop (16 * w) block) → IsHeld docs counts 128 (docs_in before left n block) (counts_in reads before left n block)
held_full reads before [] n block docs counts w v a b c info docs_are counts_are = absurd (let e : true ≡ false = ap is_rest info in cc)
held_full reads before (e ∷ es) n block docs counts w v a b c info docs_are counts_are =
    let same = ap widths info in
    let first = block_docs before e.doc_width block in
    let first_counts = block_counts reads e.count_width (drop (16 * e.doc_width) block) in
    let more = docs_in e.last_doc es n (drop (block_size e) block) in
    let more_counts = counts_in reads e.last_doc es n (drop (block_size e) block) in
    let docs_same : docs ≡ first = docs_are ∙ ap (λ (p : ℕ × ℕ). block_docs before p.0 block) (sym same) in
    let counts_same : counts ≡ first_counts = counts_are ∙ ap (λ (p : ℕ × ℕ). block_counts reads p.1 (drop (16 * p.0) block)) (sym same) in
    let long = length-block_docs before e.doc_width block in
    let long_counts = length-block_counts reads e.count_width (drop (16 * e.doc_width) block) in
    record {
      docs_are = docs_same ∙ (sym (first_of 128 first more long) ∙ sym (append-nil (take 128 (first ++ more))));
      counts_are = ap (take 128) counts_same ∙ (take_all 128 first_counts (omega (arith, long_counts)) ∙ sym (first_of 128 first_counts more_counts long_counts));
      len_is = omega (arith, length-append first more, long);
    }

-- ---- the rest

-- what is known of the rest
pub record Rest (reads : Bool) (before m : ℕ) (block : List ℕ) : Type 0 where
  pub few : m < 128
  pub docs : IsSome (take_documents before m block)
  pub counts : reads ≡ true → IsSome (take_numbers m (found (take_documents before m block)).1)
  pub counts_fit : (i : ℕ) → get_or (rest_counts reads m (found (take_documents before m block)).1) i 0 < 2 ^ 32

pub rest_readable : (reads sums : Bool) (before : ℕ) (left : List SkipEntry) (n : ℕ) (block : List ℕ) (m : ℕ) → AreReadable reads sums before left n block → info_of left n ≡ VInt m → Rest reads before m block
rest_readable reads sums before (e ∷ es) n block m readable info = absurd (let f : false ≡ true = ap is_rest info in cc)
rest_readable reads sums before [] n block m readable info =
    let rest : Rest reads before n block = record { few = readable.count_fits; docs = readable.docs; counts = readable.counts; counts_fit = readable.counts_fit } in
    subst (λ k. Rest reads before k block) (ap many info) rest

pub held_rest : (reads : Bool) (before : ℕ) (left : List SkipEntry) (n : ℕ) (block docs counts : List ℕ) (m : ℕ) → info_of left n ≡ VInt m → m < 128 → docs ≡ rest_docs before m block ++ replicate (128 - m) terminated → length (rest_docs before m block) ≡ m → take m counts ≡ rest_counts reads m (found (take_documents before m block)).1 → length (rest_counts reads m (found (take_documents before m block)).1) ≤ 128 → IsHeld docs counts m (docs_in before left n block) (counts_in reads before left n block)
held_rest reads before (e ∷ es) n block docs counts m info few docs_are long counts_are few_counts = absurd (let f : false ≡ true = ap is_rest info in cc)
held_rest reads before [] n block docs counts m info few docs_are long counts_are few_counts =
    let same : n ≡ m = ap many info in
    let P : ℕ → Type 0 = λ k. IsHeld docs counts m (rest_docs before k block) (rest_counts reads k (found (take_documents before k block)).1) in
    subst P (sym same) (record {
      docs_are = docs_are ∙ ap (λ xs. xs ++ replicate (128 - m) terminated) (sym (take_all 128 (rest_docs before m block) (omega (arith, long, few))));
      counts_are = counts_are ∙ sym (take_all 128 (rest_counts reads m (found (take_documents before m block)).1) few_counts);
      len_is = omega (arith, long, few);
    })

-- no more counts than were taken
pub few_counts : (m : ℕ) (counts all : List ℕ) → take m counts ≡ all → m ≤ 128 → length all ≤ 128
few_counts m counts all is few = (let long = ap length is in omega (arith, long, length-take m counts, few))

-- an index of the block, and what is padded behind it
pub at_held : (index len : ℕ) (docs : List ℕ) → index < 128 → len ≡ min 128 (length docs) → get_or (take 128 docs ++ replicate (128 - len) terminated) index 0 ≡ get_or docs index terminated
at_held index len docs inside long = go (cases_lt index (length docs))
  where
    go : (index < length docs) ⊎ (length docs ≤ index) → get_or (take 128 docs ++ replicate (128 - len) terminated) index 0 ≡ get_or docs index terminated
    go (inl before) = get_or_append_left (take 128 docs) (replicate (128 - len) terminated) 0 index (omega (arith, length-take 128 docs, before, inside)) ∙ (get_or-take 128 docs index 0 inside ∙ get_or_default docs index 0 terminated before)
    go (inr beyond) =
        let all = take_all 128 docs (omega (arith, beyond, inside)) in
        ap (λ xs. get_or (xs ++ replicate (128 - len) terminated) index 0) all
        ∙ (get_or-append_right docs (replicate (128 - len) terminated) (length docs) index 0 refl beyond
        ∙ (get_or-replicate (128 - len) (index - length docs) terminated 0 (omega (arith, long, beyond, inside))
        ∙ sym (get_or_past docs index terminated beyond)))

-- nothing is added up
pub none_summed : (counts : List ℕ) → IsSummed counts 0 0
none_summed counts = record { within = omega arith; total_is = omega arith; total_fits = omega arith }
