-- Full blocks that are decoded and compared with their entries.
use Rattle.std.proofs.Common.{IfSome, None, Option, Some, min, replicate, [], Bool, List, ap, arith, drop, false, get_or, length, length-drop, length-take, map, nat_lt, refl, subst, suc, sum, sym, take, take_all, true, zero, ◌*◌, ◌+◌, ◌-◌, ◌<◌, ◌≡◌, ◌≤◌, ◌∙◌, ◌∷◌, ◌^◌, ◌⊎◌, ap₂, inl, inr, if◌then◌else◌, ℕ}
use Rattle.std.proofs.lemmas.Bool.{cases_lt}
use Rattle.std.proofs.lemmas.Bool.Decides.{nat_tests}
use Rattle.std.proofs.lemmas.List.{get_or_past, length-map}
use Rattle.std.proofs.lemmas.List.Sums.{sum_by-cons}
use Rattle.std.specs.List.{AllByRecursion}
use Rattle.segment_postings.proofs.NumberFolds.{all_at}
use Rattle.segment_postings.specs.Blocks.{AreCounts, BeginsWithBlock, IsCountBlock, IsDocBlock, more_1}
use Rattle.codes.proofs.BlockBytes.{block_is, packed_stands}
use Rattle.codes.proofs.BlockPackings.{one_reading}
use Rattle.codes.proofs.StrictDeltaSums.{length-deltas, one_documents}
use Rattle.common.proofs.DigitNumbers.{AreDigits}
use Rattle.definitions.specs.Blocks.{least_of}
use Rattle.definitions.specs.Schema.{IndexRecordOption, basic, has_freq, has_positions, with_freqs, with_freqs_and_positions}
use Rattle.definitions.specs.Scoring.{greatest_of}
use Rattle.layouts.specs.Deltas.{deltas, next_of}
use Rattle.layouts.specs.PackedBlocks.{IsBlock, IsLeastWidth, IsSortedBlock}
use Rattle.layouts.specs.PackedBytes.{packed_bytes, width_from, width_of}
use Rattle.layouts.specs.SkipEntries.{SkipEntry, count_code}
use Rattle.layouts.specs.TermPostings.{id_of, less_1}
use Rattle.segment_postings.proofs.EntriesStand.{width_at_most}
use Rattle.segment_postings.proofs.ReadBack.{deltas_small, less_small, more_less, width_fits}

-- ---- widths

width_least : (numbers : List ℕ) → ((i : ℕ) → get_or numbers i 0 < 2 ^ 32) → IsLeastWidth (width_of numbers) numbers
unfolding width_of
width_least numbers small k holds = go (cases_lt k 32)
  where
    go : (k < 32) ⊎ (32 ≤ k) → width_from 32 0 numbers ≤ k
    go (inl less) = width_at_most k 32 0 numbers holds (omega arith) (omega (arith, less))
    go (inr more) = (let few : width_from 32 0 numbers ≤ 32 = width_at_most 32 32 0 numbers small (omega arith) (omega arith) in omega (arith, few, more))

-- 128 numbers have a block
pub block_stands : (numbers : List ℕ) → length numbers ≡ 128 → ((i : ℕ) → get_or numbers i 0 < 2 ^ 32) → IsBlock (width_of numbers) numbers (packed_bytes numbers)
block_stands numbers count small = (let fits = width_fits numbers small in record { width = fits.0; packed = packed_stands (width_of numbers) numbers count fits.1; least = width_least numbers small })

-- ---- lists

pub below_all : (m : ℕ) (xs : List ℕ) → 0 < m → AllByRecursion (λ x. x < m) xs → (i : ℕ) → get_or xs i 0 < m
below_all m xs some all i = go (cases_lt i (length xs))
  where
    go : (i < length xs) ⊎ (length xs ≤ i) → get_or xs i 0 < m
    go (inl within) = all_at (λ x. x < m) xs all i within
    go (inr past) = (let e = get_or_past xs i 0 past in omega (arith, e, some))

pub wider : (m n : ℕ) (xs : List ℕ) → m ≤ n → AllByRecursion (λ x. x < m) xs → AllByRecursion (λ x. x < n) xs
wider m n [] few all = tt
wider m n (x ∷ xs) few all = ((let h = all.0 in omega (arith, few, h)), wider m n xs few all.1)

pub less_more : (xs : List ℕ) → less_1 (more_1 xs) ≡ xs
less_more [] = refl
less_more (x ∷ xs) = (let here : x + 1 - 1 ≡ x = omega arith in ap₂ (λ y ys. y ∷ ys) here (less_more xs))

pub more_fit : (xs : List ℕ) → AllByRecursion (λ n. n < 2 ^ 32) (more_1 xs) → AllByRecursion (λ n. (0 < n) × (n < 2 ^ 32)) (more_1 xs)
more_fit [] all = tt
more_fit (x ∷ xs) all = ((omega arith, all.0), more_fit xs all.1)

pub fit_small : (xs : List ℕ) → AllByRecursion (λ n. (0 < n) × (n < 2 ^ 32)) xs → AllByRecursion (λ n. n < 2 ^ 32) xs
fit_small [] all = tt
fit_small (x ∷ xs) all = (all.0.1, fit_small xs all.1)

-- counts are 1 more than they stand
pub counts_are_more : (counts : List ℕ) → AllByRecursion (λ n. (0 < n) × (n < 2 ^ 32)) counts → more_1 (less_1 counts) ≡ counts
counts_are_more counts fit = more_less counts (λ i within. (all_at (λ n. (0 < n) × (n < 2 ^ 32)) counts fit i within).0)

-- ---- documents

-- documents that were decoded and compared
pub doc_block : (ids : List ℕ) (num_docs before : ℕ) (e : SkipEntry) (docs bytes : List ℕ) → AreDigits 256 bytes → length bytes ≡ 16 * e.doc_width → IsSortedBlock before e.doc_width docs (take (16 * e.doc_width) bytes) → length docs ≡ 128 → get_or docs 127 0 ≡ e.last_doc → AllByRecursion (λ doc. doc < num_docs) docs → least_of (map (id_of ids) docs) ≡ e.least_id → IsDocBlock ids num_docs (next_of before) e docs bytes
doc_block ids num_docs before e docs bytes digits long sorted count last within least =
    let all : take (16 * e.doc_width) bytes ≡ bytes = take_all (16 * e.doc_width) bytes (omega (arith, long)) in
    let block = block_is e.doc_width (deltas (next_of before) docs) bytes digits (subst (λ xs. IsBlock e.doc_width (deltas (next_of before) docs) xs) all sorted.block) in
    record {
      docs_are = record { ascending = sorted.ascending; within = within };
      count = count;
      last = sym last;
      width = block.0;
      least = sym least;
      bytes_are = block.1;
    }

-- documents of a block are decoded
pub doc_block_sorted : (ids : List ℕ) (num_docs before : ℕ) (e : SkipEntry) (docs bytes : List ℕ) → num_docs ≤ 2 ^ 32 → length bytes ≡ 16 * e.doc_width → IsDocBlock ids num_docs (next_of before) e docs bytes → IsSortedBlock before e.doc_width docs (take (16 * e.doc_width) bytes)
doc_block_sorted ids num_docs before e docs bytes few long b =
    let next = next_of before in
    let all : bytes ≡ take (16 * e.doc_width) bytes = sym (take_all (16 * e.doc_width) bytes (omega (arith, long))) in
    let small = below_all (2 ^ 32) docs (omega arith) (wider num_docs (2 ^ 32) docs few b.docs_are.within) in
    let block = block_stands (deltas next docs) (length-deltas next docs ∙ b.count) (deltas_small next (2 ^ 32) docs (omega arith) small) in
    let at_width : IsBlock e.doc_width (deltas next docs) (packed_bytes (deltas next docs)) = subst (λ w. IsBlock w (deltas next docs) (packed_bytes (deltas next docs))) (sym b.width) block in
    record {
      ascending = b.docs_are.ascending;
      small = small;
      block = subst (λ xs. IsBlock e.doc_width (deltas next docs) xs) (sym b.bytes_are ∙ all) at_width;
    }

-- no other documents are in the block
pub decoded_docs : (ids : List ℕ) (num_docs before : ℕ) (e : SkipEntry) (held docs bytes : List ℕ) → num_docs ≤ 2 ^ 32 → length bytes ≡ 16 * e.doc_width → IsSortedBlock before e.doc_width held (take (16 * e.doc_width) bytes) → IsDocBlock ids num_docs (next_of before) e docs bytes → IsDocBlock ids num_docs (next_of before) e held bytes
decoded_docs ids num_docs before e held docs bytes few long sorted b =
    let w = e.doc_width in
    let next = next_of before in
    let other = doc_block_sorted ids num_docs before e docs bytes few long b in
    let same : docs ≡ held = one_documents next docs held other.ascending sorted.ascending (one_reading w (deltas next docs) (deltas next held) (take (16 * w) bytes) other.block.packed sorted.block.packed) in
    subst (λ xs. IsDocBlock ids num_docs next e xs bytes) same b

-- ---- counts

-- counts that were decoded and compared
pub count_block : (option : IndexRecordOption) (e : SkipEntry) (held bytes : List ℕ) (total : ℕ) → has_freq option ≡ true → AreDigits 256 bytes → length bytes ≡ 16 * e.count_width → IsBlock e.count_width held (take (16 * e.count_width) bytes) → AllByRecursion (λ n. n < 2 ^ 32) (more_1 held) → total ≡ sum (more_1 held) → (if has_positions option then total else 0) ≡ e.count_sum → e.count_sum < 2 ^ 32 → count_code (greatest_of (more_1 held)) ≡ e.greatest_count → IsCountBlock option e (more_1 held) bytes
count_block option e held bytes total recorded digits long block fit total_is told few greatest =
    let w = e.count_width in
    let all : take (16 * w) bytes ≡ bytes = take_all (16 * w) bytes (omega (arith, long)) in
    let is = block_is w held bytes digits (subst (λ xs. IsBlock w held xs) all block) in
    let told_is : (if has_positions option then sum (more_1 held) else 0) ≡ e.count_sum = ap (λ k. if has_positions option then k else 0) (sym total_is) ∙ told in
    record {
      counts_are = record { fit = more_fit held fit; alone = λ none. absurd (let apart : true ≡ false = sym recorded ∙ none in cc) };
      count = length-map held (λ n. n + 1) ∙ block.packed.count;
      sum_fits = λ placed. (let here : sum (more_1 held) ≡ e.count_sum = ap (λ b. if b then sum (more_1 held) else 0) (sym placed) ∙ told_is in omega (arith, here, few));
      width = is.0 ∙ (ap width_of (sym (less_more held)) ∙ ap (λ b. if b then width_of (less_1 (more_1 held)) else 0) (sym recorded));
      sum_is = sym told_is;
      greatest = sym greatest;
      bytes_are = is.1 ∙ (ap packed_bytes (sym (less_more held)) ∙ ap (λ b. if b then packed_bytes (less_1 (more_1 held)) else []) (sym recorded));
    }

-- counts of a block are decoded
pub count_block_packed : (option : IndexRecordOption) (e : SkipEntry) (counts bytes : List ℕ) → has_freq option ≡ true → length bytes ≡ 16 * e.count_width → IsCountBlock option e counts bytes → IsBlock e.count_width (less_1 counts) (take (16 * e.count_width) bytes)
count_block_packed option e counts bytes recorded long b =
    let w = e.count_width in
    let ls = less_1 counts in
    let all : bytes ≡ take (16 * w) bytes = sym (take_all (16 * w) bytes (omega (arith, long))) in
    let small = less_small (2 ^ 32) counts (omega arith) (below_all (2 ^ 32) counts (omega arith) (fit_small counts b.counts_are.fit)) in
    let block = block_stands ls (length-map counts (λ n. n - 1) ∙ b.count) small in
    let width : w ≡ width_of ls = b.width ∙ ap (λ t. if t then width_of ls else 0) recorded in
    let whole : bytes ≡ packed_bytes ls = b.bytes_are ∙ ap (λ t. if t then packed_bytes ls else []) recorded in
    subst (λ xs. IsBlock w ls xs) (sym whole ∙ all) (subst (λ k. IsBlock k ls (packed_bytes ls)) (sym width) block)

-- no other counts are in the block
pub decoded_counts : (option : IndexRecordOption) (e : SkipEntry) (held counts bytes : List ℕ) → has_freq option ≡ true → length bytes ≡ 16 * e.count_width → IsBlock e.count_width held (take (16 * e.count_width) bytes) → IsCountBlock option e counts bytes → IsCountBlock option e (more_1 held) bytes
decoded_counts option e held counts bytes recorded long block b =
    let w = e.count_width in
    let other = count_block_packed option e counts bytes recorded long b in
    let same : less_1 counts ≡ held = one_reading w (less_1 counts) held (take (16 * w) bytes) other.packed block.packed in
    subst (λ xs. IsCountBlock option e xs bytes) (sym (counts_are_more counts b.counts_are.fit) ∙ ap more_1 same) b

-- ---- counts that aren't recorded

pub unplaced : (option : IndexRecordOption) → has_freq option ≡ false → has_positions option ≡ false
unplaced basic none = refl
unplaced with_freqs none = refl
unplaced with_freqs_and_positions none = none

ones_at : (n : ℕ) → AllByRecursion (λ (k : ℕ). (0 < k) × (k < 2 ^ 32)) (replicate n 1) × AllByRecursion (λ (k : ℕ). k ≡ 1) (replicate n 1)
ones_at zero = (tt, tt)
ones_at (suc n) = (let ih = ones_at n in (((omega arith, omega arith), ih.0), (refl, ih.1)))

pub ones_are : (option : IndexRecordOption) (n : ℕ) → AreCounts option (replicate n 1)
ones_are option n = (let all = ones_at n in record { fit = all.0; alone = λ none. all.1 })

pub length_ones : (n : ℕ) → length {A = ℕ} (replicate n 1) ≡ n
length_ones zero = refl
length_ones (suc n) = ap suc (length_ones n)

pub sum_ones : (n : ℕ) → sum (replicate n 1) ≡ n
sum_ones zero = refl
sum_ones (suc n) = (let ih = sum_ones n in let total = sum_by-cons (λ x. x) 1 (replicate n 1) in omega (arith, ih, total))

pub ones_block : (option : IndexRecordOption) (e : SkipEntry) (bytes : List ℕ) → has_freq option ≡ false → length bytes ≡ 16 * e.count_width → bytes ≡ [] → e.count_sum ≡ 0 → e.greatest_count ≡ 1 → IsCountBlock option e (replicate 128 1) bytes
ones_block option e bytes none long empty summed greatest =
    let placed = unplaced option none in
    let ones : List ℕ = replicate 128 1 in
    let nothing = ap length empty in
    record {
      counts_are = ones_are option 128;
      count = length_ones 128;
      sum_fits = λ told. absurd (let apart : true ≡ false = sym told ∙ placed in cc);
      width = (let is : e.count_width ≡ 0 = omega (arith, long, nothing) in is ∙ ap (λ b. if b then width_of (less_1 ones) else 0) (sym none));
      sum_is = summed ∙ ap (λ b. if b then sum ones else 0) (sym placed);
      greatest = greatest;
      bytes_are = empty ∙ ap (λ b. if b then packed_bytes (less_1 ones) else []) (sym none);
    }

greatest_of_ones : (counts : List ℕ) → 0 < length counts → AllByRecursion (λ n. n ≡ 1) counts → greatest_of counts ≡ 1
greatest_of_ones [] some ones = absurd (omega (arith, some))
greatest_of_ones (n ∷ []) some ones = (let h = ones.0 in omega (arith, h))
greatest_of_ones (n ∷ m ∷ ns) some ones = (let h = ones.0 in let ih : greatest_of (m ∷ ns) ≡ 1 = greatest_of_ones (m ∷ ns) (omega arith) ones.1 in omega (arith, h, ih))

-- what an entry tells where counts aren't recorded
pub unrecorded_entry : (option : IndexRecordOption) (e : SkipEntry) (counts bytes : List ℕ) → has_freq option ≡ false → IsCountBlock option e counts bytes → (bytes ≡ []) × (e.count_sum ≡ 0) × (e.greatest_count ≡ 1)
unrecorded_entry option e counts bytes none b =
    let count = b.count in
    let one = greatest_of_ones counts (omega (arith, count)) (b.counts_are.alone none) in (
      b.bytes_are ∙ ap (λ t. if t then packed_bytes (less_1 counts) else []) none,
      b.sum_is ∙ ap (λ t. if t then sum counts else 0) (unplaced option none),
      b.greatest ∙ ap count_code one,
    )

-- ---- lengths

pub kept_all : (o : Option (List ℕ)) (num_docs : ℕ) (docs : List ℕ) → IfSome o (λ ids. length ids ≡ num_docs) → AllByRecursion (λ doc. doc < num_docs) docs → IfSome o (λ ids. AllByRecursion (λ doc. doc < length ids) docs)
kept_all None num_docs docs kept within = tt
kept_all (Some ids) num_docs docs kept within = subst (λ n. AllByRecursion (λ doc. doc < n) docs) (sym kept) within

-- counts over 254 are told as 255
pub code_is : (n : ℕ) → min n 255 ≡ count_code n
code_is n = go (nat_lt 254 n) refl
  where
    go : (b : Bool) → nat_lt 254 n ≡ b → min n 255 ≡ (if b then 255 else n)
    go true e = (let h : 254 < n = grind (arith, nat_tests) in omega (arith, h))
    go false e = (let h : n ≤ 254 = grind (arith, nat_tests) in omega (arith, h))

-- ---- how long blocks are

pub docs_long : (ids : List ℕ) (num_docs next : ℕ) (e : SkipEntry) (docs bytes : List ℕ) → num_docs ≤ 2 ^ 32 → IsDocBlock ids num_docs next e docs bytes → length bytes ≡ 16 * e.doc_width
docs_long ids num_docs next e docs bytes few b =
    let small = below_all (2 ^ 32) docs (omega arith) (wider num_docs (2 ^ 32) docs few b.docs_are.within) in
    let block = block_stands (deltas next docs) (length-deltas next docs ∙ b.count) (deltas_small next (2 ^ 32) docs (omega arith) small) in
    ap length b.bytes_are ∙ (block.packed.long ∙ ap (λ w. 16 * w) (sym b.width))

pub counts_long : (option : IndexRecordOption) (e : SkipEntry) (counts bytes : List ℕ) → IsCountBlock option e counts bytes → length bytes ≡ 16 * e.count_width
counts_long option e counts bytes b =
    let ls = less_1 counts in
    let small = less_small (2 ^ 32) counts (omega arith) (below_all (2 ^ 32) counts (omega arith) (fit_small counts b.counts_are.fit)) in
    let block = block_stands ls (length-map counts (λ n. n - 1) ∙ b.count) small in
    ap length b.bytes_are ∙ (go (has_freq option) block.packed.long ∙ ap (λ w. 16 * w) (sym b.width))
  where
    go : (t : Bool) → length (packed_bytes (less_1 counts)) ≡ 16 * width_of (less_1 counts) → length (if t then packed_bytes (less_1 counts) else []) ≡ 16 * (if t then width_of (less_1 counts) else 0)
    go true long = long
    go false long = refl

-- there is room for a block
pub block_room : (option : IndexRecordOption) (ids : List ℕ) (num_docs next : ℕ) (e : SkipEntry) (bytes : List ℕ) (total : ℕ) → num_docs ≤ 2 ^ 32 → BeginsWithBlock option ids num_docs next e bytes total → 16 * e.doc_width + 16 * e.count_width ≤ length bytes
block_room option ids num_docs next e bytes total few b =
    let d = docs_long ids num_docs next e b.docs (take (16 * e.doc_width) bytes) few b.docs_are in
    let k = counts_long option e b.counts (take (16 * e.count_width) (drop (16 * e.doc_width) bytes)) b.counts_are in
    omega (arith, d, k, length-take (16 * e.doc_width) bytes, length-take (16 * e.count_width) (drop (16 * e.doc_width) bytes), length-drop (16 * e.doc_width) bytes)
