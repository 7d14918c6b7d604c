-- What was written is read back.
use Rattle.std.proofs.Common.{[], Bool, IsSome, List, Some, ap, ap₂, append-nil, append_assoc, arith, cond, drop, false, get_or, length, length-append, length-drop, length-take, nat_eq, nat_lt, refl, replicate, subst, suc, sum, sym, take, true, zero, ◌*◌, ◌++◌, ◌+◌, ◌-◌, ◌<◌, ◌≡◌, ◌≤◌, ◌∙◌, ◌∷◌, ◌^◌, ◌⊎◌, inl, inr, ℕ, if◌then◌else◌}
use Rattle.std.proofs.lemmas.Bool.{cases_lt}
use Rattle.std.proofs.lemmas.Bool.Decides.{nat_tests}
use Rattle.std.proofs.lemmas.List.{get_or-drop, get_or-take, get_or_past, length-map, replicate-append-replicate, take-append-drop}
use Rattle.std.specs.List.{AllByRecursion, list_all}
use Rattle.codes.proofs.BlockBytes.{packed_stands}
use Rattle.codes.proofs.VintListLaws.{documents_back, numbers_back}
use Rattle.codes.proofs.UnpackedBlocks.{packed_is}
use Rattle.codes.proofs.StrictDeltaSums.{documents-deltas, length-deltas}
use Rattle.codes.specs.UnpackedBlocks.{unpacked}
use Rattle.common.proofs.DigitNumbers.{AreDigits}
use Rattle.definitions.specs.Postings.{terminated}
use Rattle.definitions.specs.Schema.{IndexRecordOption, has_freq, has_positions}
use Rattle.layouts.proofs.PackedTests.{all_below}
use Rattle.layouts.specs.Deltas.{IsAscendingFrom, deltas, documents, next_of}
use Rattle.layouts.specs.PackedBytes.{packed_bytes, width_from, width_of}
use Rattle.layouts.specs.SkipEntries.{SkipEntry}
use Rattle.layouts.specs.TermPostings.{ArePosted, all_blocks, full_block, less_1, next_after, rest_block, skip_entries, skip_entry}
use Rattle.layouts.specs.VintBlocks.{numbers_bytes, take_documents, take_numbers}
use Rattle.segment_postings.specs.Reading.{AreReadable, block_counts, block_docs, counts_in, docs_in, found, rest_counts, rest_docs}
use Rattle.codes.specs.SkipBlocks.{block_size}
use Rattle.codes.proofs.BlockPackings.{pow-pos}
use Rattle.codes.proofs.FieldNormSections.{all_below as small_list}
use Rattle.segment_postings.specs.Blocks.{more_1}
use Rattle.segment_postings.proofs.Lists.{ascending_drop, ascending_take, behind, first_of}
use Rattle.segment_postings.proofs.NumberFolds.{all_at}

-- ---- widths

width_holds : (more from : ℕ) (numbers : List ℕ) → from + more ≡ 32 → ((i : ℕ) → get_or numbers i 0 < 2 ^ 32) → (width_from more from numbers ≤ 32) × ((i : ℕ) → get_or numbers i 0 < 2 ^ width_from more from numbers)
width_holds zero from numbers all small = (let e : from ≡ 32 = omega (arith, all) in (omega (arith, e), λ i. subst (λ k. get_or numbers i 0 < 2 ^ k) (sym e) (small i)))
width_holds (suc more) from numbers all small = go (list_all (λ n. nat_lt n (2 ^ from)) numbers) refl (width_holds more (from + 1) numbers (omega (arith, all)) small)
  where
    go : (b : Bool) → list_all (λ n. nat_lt n (2 ^ from)) numbers ≡ b → (width_from more (from + 1) numbers ≤ 32) × ((i : ℕ) → get_or numbers i 0 < 2 ^ width_from more (from + 1) numbers) → ((if b then from else width_from more (from + 1) numbers) ≤ 32) × ((i : ℕ) → get_or numbers i 0 < 2 ^ (if b then from else width_from more (from + 1) numbers))
    go true e later = (omega (arith, all), all_below (2 ^ from) numbers (pow-pos from) e)
    go false e later = later

pub width_fits : (numbers : List ℕ) → ((i : ℕ) → get_or numbers i 0 < 2 ^ 32) → (width_of numbers ≤ 32) × ((i : ℕ) → get_or numbers i 0 < 2 ^ width_of numbers)
unfolding width_of
width_fits numbers small = width_holds 32 0 numbers (omega arith) small

-- 128 numbers are packed, and unpacked again
pub record Packs (numbers : List ℕ) : Type 0 where
  pub few : width_of numbers ≤ 32
  pub long : length (packed_bytes numbers) ≡ 16 * width_of numbers
  pub back : AreDigits 256 (packed_bytes numbers) → unpacked (width_of numbers) (packed_bytes numbers) ≡ numbers

pub packs : (numbers : List ℕ) → length numbers ≡ 128 → ((i : ℕ) → get_or numbers i 0 < 2 ^ 32) → Packs numbers
packs numbers count small =
    let fits = width_fits numbers small in
    let packed = packed_stands (width_of numbers) numbers count fits.1 in
    record { few = fits.0; long = packed.long; back = λ digits. sym (packed_is (width_of numbers) numbers (packed_bytes numbers) digits packed) }

-- ---- what a term has from a document on

pub record Posted (option : IndexRecordOption) (next : ℕ) (docs counts : List ℕ) : Type 0 where
  pub long : length counts ≡ length docs
  pub ascending : IsAscendingFrom next docs
  pub docs_fit : (i : ℕ) → get_or docs i 0 < terminated
  pub counted : (i : ℕ) → i < length counts → 0 < get_or counts i 0
  pub counts_fit : (i : ℕ) → get_or counts i 0 < 2 ^ 32

-- a document has as many numbers before it as there are documents
pub ascends_far : (i next : ℕ) (docs : List ℕ) → IsAscendingFrom next docs → i < length docs → next + i ≤ get_or docs i 0
ascends_far i next [] a l = absurd (omega arith)
ascends_far zero next (d ∷ ds) a l = (let h = a.0 in omega (arith, h))
ascends_far (suc i) next (d ∷ ds) a l = (let ih = ascends_far i (d + 1) ds a.1 (omega arith) in let h = a.0 in omega (arith, ih, h))

pub deltas_small : (next m : ℕ) (docs : List ℕ) → 0 < m → ((i : ℕ) → get_or docs i 0 < m) → (i : ℕ) → get_or (deltas next docs) i 0 < m
deltas_small next m [] some small i = some
deltas_small next m (d ∷ ds) some small zero = (let h = small 0 in omega (arith, h))
deltas_small next m (d ∷ ds) some small (suc i) = deltas_small (d + 1) m ds some (λ k. small (suc k)) i

pub more_less : (counts : List ℕ) → ((i : ℕ) → i < length counts → 0 < get_or counts i 0) → more_1 (less_1 counts) ≡ counts
more_less [] some = refl
more_less (n ∷ ns) some =
    let h = some 0 (omega arith) in
    let here : n - 1 + 1 ≡ n = omega (arith, h) in
    ap₂ (λ x xs. x ∷ xs) here (more_less ns (λ i l. some (suc i) (omega (arith, l))))

pub less_small : (m : ℕ) (counts : List ℕ) → 0 < m → ((i : ℕ) → get_or counts i 0 < m) → (i : ℕ) → get_or (less_1 counts) i 0 < m
less_small m [] some small i = some
less_small m (n ∷ ns) some small zero = (let h = small 0 in omega (arith, h))
less_small m (n ∷ ns) some small (suc i) = less_small m ns some (λ k. small (suc k)) i

small_take : (n m : ℕ) (xs : List ℕ) → 0 < m → ((i : ℕ) → get_or xs i 0 < m) → (i : ℕ) → get_or (take n xs) i 0 < m
small_take n m xs some small i = go (cases_lt i n)
  where
    go : (i < n) ⊎ (n ≤ i) → get_or (take n xs) i 0 < m
    go (inl l) = (let h = small i in let e = get_or-take n xs i 0 l in omega (arith, h, e))
    go (inr l) = (let e = get_or_past (take n xs) i 0 (omega (arith, l, length-take n xs)) in omega (arith, e, some))

small_drop : (n m : ℕ) (xs : List ℕ) → ((i : ℕ) → get_or xs i 0 < m) → (i : ℕ) → get_or (drop n xs) i 0 < m
small_drop n m xs small i = (let h = small (n + i) in let e = get_or-drop n xs i 0 in omega (arith, h, e))

pub posted_take : (option : IndexRecordOption) (next : ℕ) (docs counts : List ℕ) → Posted option next docs counts → Posted option next (take 128 docs) (take 128 counts)
posted_take option next docs counts p =
    let long = p.long in
    record {
      long = omega (arith, long, length-take 128 docs, length-take 128 counts);
      ascending = ascending_take 128 next docs p.ascending;
      docs_fit = small_take 128 terminated docs (omega arith) p.docs_fit;
      counted = λ i l. (let h = p.counted i (omega (arith, l, length-take 128 counts)) in let e = get_or-take 128 counts i 0 (omega (arith, l, length-take 128 counts)) in omega (arith, h, e));
      counts_fit = small_take 128 (2 ^ 32) counts (omega arith) p.counts_fit;
    }

pub posted_drop : (option : IndexRecordOption) (next : ℕ) (docs counts : List ℕ) → Posted option next docs counts → 128 ≤ length docs → Posted option (next_after docs) (drop 128 docs) (drop 128 counts)
posted_drop option next docs counts p full =
    let long = p.long in
    record {
      long = omega (arith, long, length-drop 128 docs, length-drop 128 counts);
      ascending = ascending_drop 127 next docs p.ascending full;
      docs_fit = small_drop 128 terminated docs p.docs_fit;
      counted = λ i l. (let h = p.counted (128 + i) (omega (arith, l, length-drop 128 counts)) in let e = get_or-drop 128 counts i 0 in omega (arith, h, e));
      counts_fit = small_drop 128 (2 ^ 32) counts p.counts_fit;
    }

-- ---- one block

-- a full block, and bytes behind it
pub record BlockBack (option : IndexRecordOption) (ids : List ℕ) (reads : Bool) (before next : ℕ) (docs counts rest : List ℕ) : Type 0 where
  pub docs_back : block_docs before (skip_entry option ids next docs counts).doc_width (full_block option next docs counts ++ rest) ≡ docs
  pub counts_back : block_counts reads (skip_entry option ids next docs counts).count_width (drop (16 * (skip_entry option ids next docs counts).doc_width) (full_block option next docs counts ++ rest)) ≡ (if reads then counts else replicate 128 1)
  pub doc_width : (skip_entry option ids next docs counts).doc_width ≤ 32
  pub count_width : (skip_entry option ids next docs counts).count_width ≤ 32
  pub size : block_size (skip_entry option ids next docs counts) ≡ length (full_block option next docs counts)

digits_first : (xs ys : List ℕ) → AreDigits 256 (xs ++ ys) → AreDigits 256 xs
digits_first [] ys d i = omega arith
digits_first (x ∷ xs) ys d zero = d 0
digits_first (x ∷ xs) ys d (suc i) = digits_first xs ys (λ k. d (suc k)) i

pub digits_behind : (xs ys : List ℕ) → AreDigits 256 (xs ++ ys) → AreDigits 256 ys
digits_behind [] ys d i = d i
digits_behind (x ∷ xs) ys d i = digits_behind xs ys (λ k. d (suc k)) i

-- the documents of a block
docs_part : (before next : ℕ) (docs counts rest : List ℕ) → Packs (deltas next docs) → IsAscendingFrom next docs → next ≡ next_of before → AreDigits 256 (packed_bytes (deltas next docs)) → block_docs before (width_of (deltas next docs)) ((packed_bytes (deltas next docs) ++ counts) ++ rest) ≡ docs
docs_part before next docs counts rest p ascends begins digits =
    let w = width_of (deltas next docs) in
    let block = packed_bytes (deltas next docs) in
    let taken : take (16 * w) ((block ++ counts) ++ rest) ≡ block = ap (take (16 * w)) (append_assoc block counts rest) ∙ first_of (16 * w) block (counts ++ rest) p.long in
    ap (λ xs. documents (next_of before) (unpacked w xs)) taken
    ∙ (ap (documents (next_of before)) (p.back digits)
    ∙ (ap (λ k. documents k (deltas next docs)) (sym begins)
    ∙ documents-deltas next docs ascends))

-- the counts behind them
counts_part : (c r : Bool) (counts rest : List ℕ) → (r ≡ true → c ≡ true) → Packs (less_1 counts) → ((i : ℕ) → i < length counts → 0 < get_or counts i 0) → AreDigits 256 ((if c then packed_bytes (less_1 counts) else []) ++ rest) → block_counts r (if c then width_of (less_1 counts) else 0) ((if c then packed_bytes (less_1 counts) else []) ++ rest) ≡ (if r then counts else replicate 128 1)
counts_part true true counts rest recorded p some digits =
    let w = width_of (less_1 counts) in
    let block = packed_bytes (less_1 counts) in
    ap (λ xs. more_1 (unpacked w xs)) (first_of (16 * w) block rest p.long)
    ∙ (ap more_1 (p.back (digits_first block rest digits))
    ∙ more_less counts some)
counts_part false true counts rest recorded p some digits = absurd (let e : false ≡ true = recorded refl in cc)
counts_part true false counts rest recorded p some digits = refl
counts_part false false counts rest recorded p some digits = refl

counts_fit : (c : Bool) (counts : List ℕ) → Packs (less_1 counts) → ((if c then width_of (less_1 counts) else 0) ≤ 32) × (length (if c then packed_bytes (less_1 counts) else []) ≡ 16 * (if c then width_of (less_1 counts) else 0))
counts_fit true counts p = (p.few, p.long)
counts_fit false counts p = (omega arith, refl)

pub block_back : (option : IndexRecordOption) (ids : List ℕ) (reads : Bool) (before next : ℕ) (docs counts rest : List ℕ) → Posted option next docs counts → length docs ≡ 128 → next ≡ next_of before → (reads ≡ true → has_freq option ≡ true) → AreDigits 256 (full_block option next docs counts ++ rest) → BlockBack option ids reads before next docs counts rest
block_back option ids reads before next docs counts rest posted full begins recorded digits =
    let c = has_freq option in
    let ls = less_1 counts in
    let long = posted.long in
    let first = packed_bytes (deltas next docs) in
    let second = if c then packed_bytes ls else [] in
    let p = packs (deltas next docs) (length-deltas next docs ∙ full) (deltas_small next (2 ^ 32) docs (omega arith) (λ i. (let h = posted.docs_fit i in omega (arith, h)))) in
    let q = packs ls (length-map counts (λ n. n - 1) ∙ (long ∙ full)) (less_small (2 ^ 32) counts (omega arith) posted.counts_fit) in
    let fit = counts_fit c counts q in
    let whole = digits_first (first ++ second) rest digits in
    let behind_first : drop (16 * width_of (deltas next docs)) ((first ++ second) ++ rest) ≡ second ++ rest = ap (drop (16 * width_of (deltas next docs))) (append_assoc first second rest) ∙ behind (16 * width_of (deltas next docs)) first (second ++ rest) p.long in
    let digits_second : AreDigits 256 (second ++ rest) = digits_behind first (second ++ rest) (subst (AreDigits 256) (append_assoc first second rest) digits) in
    let first_long = p.long in
    let second_long = fit.1 in
    record {
      docs_back = docs_part before next docs second rest p posted.ascending begins (digits_first first second whole);
      counts_back = ap (λ xs. block_counts reads (if c then width_of ls else 0) xs) behind_first ∙ counts_part c reads counts rest recorded q posted.counted digits_second;
      doc_width = p.few;
      count_width = fit.0;
      size = omega (arith, length-append first second, first_long, second_long);
    }

-- ---- the rest

rest_counts_back : (c r : Bool) (counts : List ℕ) (n : ℕ) → (r ≡ true → c ≡ true) → n ≡ length counts → ((i : ℕ) → i < length counts → 0 < get_or counts i 0) → AllByRecursion (λ k. k < 2 ^ 32) (less_1 counts) → (r ≡ true → IsSome (take_numbers n (if c then numbers_bytes (less_1 counts) else []))) × (rest_counts r n (if c then numbers_bytes (less_1 counts) else []) ≡ (if r then counts else replicate n 1))
rest_counts_back true true counts n recorded is some small =
    let ls = less_1 counts in
    let bytes = numbers_bytes ls in
    let back : take_numbers n bytes ≡ Some (ls, []) = ap (λ k. take_numbers k bytes) (is ∙ sym (length-map counts (λ k. k - 1))) ∙ (ap (take_numbers (length ls)) (sym (append-nil bytes)) ∙ numbers_back ls [] small) in
    (λ yes. subst (λ o. IsSome o) (sym back) refl, ap (λ o. more_1 (found o).0) back ∙ more_less counts some)
rest_counts_back false true counts n recorded is some small = absurd (let e : false ≡ true = recorded refl in cc)
rest_counts_back true false counts n recorded is some small = (λ yes. absurd cc, refl)
rest_counts_back false false counts n recorded is some small = (λ yes. absurd cc, refl)

pub record AllBack (option : IndexRecordOption) (reads sums : Bool) (before n : ℕ) (entries : List SkipEntry) (docs counts bytes : List ℕ) : Type 0 where
  pub readable : AreReadable reads sums before entries n bytes
  pub docs_back : docs_in before entries n bytes ≡ docs
  pub counts_back : counts_in reads before entries n bytes ≡ (if reads then counts else replicate (length docs) 1)

ones_small : (n i : ℕ) → get_or (replicate n 1) i 0 < 2 ^ 32
ones_small zero i = omega arith
ones_small (suc n) zero = omega arith
ones_small (suc n) (suc i) = ones_small n i

counts_small : (r : Bool) (counts : List ℕ) (n : ℕ) → ((i : ℕ) → get_or counts i 0 < 2 ^ 32) → (i : ℕ) → get_or (if r then counts else replicate n 1) i 0 < 2 ^ 32
counts_small true counts n small i = small i
counts_small false counts n small i = ones_small n i

rest_back : (option : IndexRecordOption) (reads sums : Bool) (before next n : ℕ) (docs counts : List ℕ) → Posted option next docs counts → n ≡ length docs → n < 128 → next ≡ next_of before → (reads ≡ true → has_freq option ≡ true) → AllBack option reads sums before n [] docs counts (rest_block option next docs counts)
rest_back option reads sums before next n docs counts posted is few begins recorded =
    let c = has_freq option in
    let tail = if c then numbers_bytes (less_1 counts) else [] in
    let bytes = numbers_bytes (deltas next docs) ++ tail in
    let long = posted.long in
    let small_docs = small_list (2 ^ 32) docs (λ i. (let h = posted.docs_fit i in omega (arith, h))) in
    let back : take_documents before n bytes ≡ Some (docs, tail) =
    ap₂ (λ k m. take_documents before k (numbers_bytes (deltas m docs) ++ tail)) is begins
    ∙ documents_back before docs tail (subst (λ k. IsAscendingFrom k docs) begins posted.ascending) small_docs in
    let docs_are : rest_docs before n bytes ≡ docs = ap (λ o. (found o).0) back in
    let left : (found (take_documents before n bytes)).1 ≡ tail = ap (λ o. (found o).1) back in
    let counted = rest_counts_back c reads counts n recorded (omega (arith, is, long)) posted.counted (small_list (2 ^ 32) (less_1 counts) (less_small (2 ^ 32) counts (omega arith) posted.counts_fit)) in
    let counts_are : rest_counts reads n (found (take_documents before n bytes)).1 ≡ (if reads then counts else replicate n 1) = ap (λ xs. rest_counts reads n xs) left ∙ counted.1 in
    record {
      readable = record {
        count_fits = few;
        docs = subst (λ o. IsSome o) (sym back) refl;
        small = subst (λ xs. (i : ℕ) → get_or xs i 0 < terminated) (sym docs_are) posted.docs_fit;
        counts = subst (λ xs. reads ≡ true → IsSome (take_numbers n xs)) (sym left) counted.0;
        counts_fit = subst (λ xs. (i : ℕ) → get_or xs i 0 < 2 ^ 32) (sym counts_are) (counts_small reads counts n posted.counts_fit);
      };
      docs_back = docs_are;
      counts_back = counts_are ∙ ap (λ k. if reads then counts else replicate k 1) is;
    }

-- ---- all blocks

joined_counts : (r : Bool) (counts : List ℕ) (n : ℕ) → (if r then take 128 counts else replicate 128 1) ++ (if r then drop 128 counts else replicate n 1) ≡ (if r then counts else replicate (128 + n) 1)
joined_counts true counts n = take-append-drop 128 counts
joined_counts false counts n = replicate-append-replicate 128 n 1

sum_back : (p r : Bool) (counts block : List ℕ) → block ≡ (if r then counts else replicate 128 1) → (p ≡ true) × (r ≡ true) → (if p then sum counts else 0) ≡ sum block
sum_back true true counts block is both = ap sum (sym is)
sum_back true false counts block is both = absurd (let e : false ≡ true = both.1 in cc)
sum_back false r counts block is both = absurd (let e : false ≡ true = both.0 in cc)

pub all_back : (option : IndexRecordOption) (ids : List ℕ) (reads sums : Bool) (blocks before next n : ℕ) (docs counts : List ℕ) → Posted option next docs counts → length docs ≡ 128 * blocks + n → n < 128 → next ≡ next_of before → (reads ≡ true → has_freq option ≡ true) → (sums ≡ true → (has_positions option ≡ true) × (reads ≡ true)) → AreDigits 256 (all_blocks option blocks next docs counts) → AllBack option reads sums before n (skip_entries option ids blocks next docs counts) docs counts (all_blocks option blocks next docs counts)
all_back option ids reads sums zero before next n docs counts posted long few begins recorded told digits = rest_back option reads sums before next n docs counts posted (omega (arith, long)) few begins recorded
all_back option ids reads sums (suc blocks) before next n docs counts posted long few begins recorded told digits =
    let first = take 128 docs in
    let first_counts = take 128 counts in
    let e = skip_entry option ids next first first_counts in
    let block = full_block option next first first_counts in
    let rest = all_blocks option blocks (next_after docs) (drop 128 docs) (drop 128 counts) in
    let many : 128 ≤ length docs = omega (arith, long) in
    let full : length first ≡ 128 = omega (arith, length-take 128 docs, many) in
    let here = block_back option ids reads before next first first_counts rest (posted_take option next docs counts posted) full begins recorded digits in
    let at_last : get_or first 127 0 ≡ get_or docs 127 0 = get_or-take 128 docs 127 0 (omega arith) in
    let far = ascends_far 127 next docs posted.ascending many in
    let small = posted.docs_fit 127 in
    let next_is : next_after docs ≡ next_of e.last_doc = next_block (get_or docs 127 0) e.last_doc (sym at_last) (omega (arith, far)) in
    let later = all_back option ids reads sums blocks e.last_doc (next_after docs) n (drop 128 docs) (drop 128 counts) (posted_drop option next docs counts posted many) (omega (arith, length-drop 128 docs, long)) few next_is recorded told (digits_behind block rest digits) in
    let size = here.size in
    let left : drop (block_size e) (block ++ rest) ≡ rest = behind (block_size e) block rest (sym size) in
    let docs_are = here.docs_back in
    let counts_are = here.counts_back in
    let last_is = ap (λ xs. get_or xs 127 0) docs_are in
    let entries = skip_entries option ids blocks (next_after docs) (drop 128 docs) (drop 128 counts) in
    record {
      readable = (
        record {
          doc_width = here.doc_width;
          count_width = here.count_width;
          room = omega (arith, size, length-append block rest);
          last = last_is;
          last_positive = omega (arith, at_last, far);
          small = omega (arith, at_last, small);
          counts_fit = subst (λ xs. (i : ℕ) → get_or xs i 0 < 2 ^ 32) (sym counts_are) (counts_small reads first_counts 128 (small_take 128 (2 ^ 32) counts (omega arith) posted.counts_fit));
          sum_is = λ summed. sum_back (has_positions option) reads first_counts _ counts_are (told summed);
        },
        subst (λ xs. AreReadable reads sums e.last_doc entries n xs) (sym left) later.readable,
      );
      docs_back = ap₂ (λ xs ys. xs ++ docs_in e.last_doc entries n ys) docs_are left ∙ (ap (λ xs. first ++ xs) later.docs_back ∙ take-append-drop 128 docs);
      counts_back = ap₂ (λ xs ys. xs ++ counts_in reads e.last_doc entries n ys) counts_are left ∙ (ap (λ xs. (if reads then first_counts else replicate 128 1) ++ xs) later.counts_back ∙ (joined_counts reads counts (length (drop 128 docs)) ∙ ap (λ k. if reads then counts else replicate k 1) (omega (arith, length-drop 128 docs, many))));
    }
  where
    next_block : (d last : ℕ) → d ≡ last → 0 < last → d + 1 ≡ next_of last
    next_block d last same some = (let no : nat_eq last 0 ≡ false = grind (arith, nat_tests) in ap (λ k. k + 1) same ∙ sym (ap (λ b. cond b 0 (last + 1)) no))

-- ---- what a term may have

below_each : (m : ℕ) (xs : List ℕ) → 0 < m → ((i : ℕ) → i < length xs → get_or xs i 0 < m) → (i : ℕ) → get_or xs i 0 < m
below_each m xs some each i = go (cases_lt i (length xs))
  where
    go : (i < length xs) ⊎ (length xs ≤ i) → get_or xs i 0 < m
    go (inl within) = each i within
    go (inr past) = (let e = get_or_past xs i 0 past in omega (arith, e, some))

pub posted_from : (option : IndexRecordOption) (docs counts : List ℕ) → ArePosted option docs counts → Posted option 0 docs counts
posted_from option docs counts p = record {
  long = p.same;
  ascending = p.ascending;
  docs_fit = below_each terminated docs (omega arith) (all_at (λ d. d < terminated) docs p.docs_fit);
  counted = λ i within. (all_at (λ n. (0 < n) × (n < 2 ^ 32)) counts p.counts_fit i within).0;
  counts_fit = below_each (2 ^ 32) counts (omega arith) (λ i within. (all_at (λ n. (0 < n) × (n < 2 ^ 32)) counts p.counts_fit i within).1);
}
