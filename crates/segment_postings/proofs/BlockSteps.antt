-- Blocks one by one: the first, and those behind it.
use Rattle.std.proofs.Common.{[], List, ap, ap₂, append_assoc, arith, drop, get_or, if◌then◌else◌, length, length-append, length-drop, length-take, refl, subst, suc, sum, sym, take, zero, ◌*◌, ◌++◌, ◌+◌, ◌<◌, ◌≡◌, ◌≤◌, ◌∙◌, ◌∷◌, ◌^◌, ℕ}
use Rattle.std.proofs.lemmas.List.{get_or-take, take-append-drop}
use Rattle.std.proofs.lemmas.List.Sums.{sum_by-append, sum_by-take-drop}
use Rattle.std.specs.List.{AllByRecursion}
use Rattle.segment_postings.proofs.BlockChecks.{counts_long, docs_long}
use Rattle.segment_postings.specs.Blocks.{BeginsWithBlock, HasBlocks, IsCountBlock, IsDocBlock}
use Rattle.segment_postings.proofs.Lists.{ascending_drop, ascending_take, behind, first_of}
use Rattle.codes.proofs.UnpackedBlocks.{drop_drop}
use Rattle.definitions.specs.Schema.{IndexRecordOption, has_freq}
use Rattle.definitions.proofs.Lists.{all_append}
use Rattle.layouts.specs.Deltas.{IsAscendingFrom, deltas}
use Rattle.layouts.specs.PackedBytes.{packed_bytes}
use Rattle.layouts.specs.SkipEntries.{SkipEntry}
use Rattle.layouts.specs.TermPostings.{SumsFit, all_blocks, full_block, less_1, next_after, skip_entries, skip_entry}
use Rattle.codes.specs.SkipBlocks.{block_size}

-- ---- lists

pub all_take : (P : ℕ → Type 0) (n : ℕ) (xs : List ℕ) → AllByRecursion P xs → AllByRecursion P (take n xs)
all_take P zero xs all = tt
all_take P (suc n) [] all = tt
all_take P (suc n) (x ∷ xs) all = (all.0, all_take P n xs all.1)

pub all_drop : (P : ℕ → Type 0) (n : ℕ) (xs : List ℕ) → AllByRecursion P xs → AllByRecursion P (drop n xs)
all_drop P zero xs all = all
all_drop P (suc n) [] all = tt
all_drop P (suc n) (x ∷ xs) all = all_drop P n xs all.1

ascending_join : (n next : ℕ) (xs ys : List ℕ) → length xs ≡ suc n → IsAscendingFrom next xs → IsAscendingFrom (get_or xs n 0 + 1) ys → IsAscendingFrom next (xs ++ ys)
ascending_join n next [] ys long first last = absurd (omega (arith, long))
ascending_join zero next (x ∷ []) ys long first last = (first.0, last)
ascending_join zero next (x ∷ y ∷ xs) ys long first last = absurd (omega (arith, long))
ascending_join (suc n) next (x ∷ xs) ys long first last = (first.0, ascending_join n (x + 1) xs ys (omega (arith, long)) first.1 last)

-- two parts, and what follows them
three_parts : (m n : ℕ) (first second rest bytes : List ℕ) → bytes ≡ (first ++ second) ++ rest → length first ≡ m → length second ≡ n → (take m bytes ≡ first) × (take n (drop m bytes) ≡ second) × (drop (m + n) bytes ≡ rest)
three_parts m n first second rest bytes whole long_first long_second =
    let is : bytes ≡ first ++ (second ++ rest) = whole ∙ append_assoc first second rest in
    let left : drop m bytes ≡ second ++ rest = ap (drop m) is ∙ behind m first (second ++ rest) long_first in (
      ap (take m) is ∙ first_of m first (second ++ rest) long_first,
      ap (take n) left ∙ first_of n second rest long_second,
      sym (drop_drop m n bytes) ∙ (ap (drop n) left ∙ behind n second rest long_second),
    )

whole_of_parts : (m n : ℕ) (bytes : List ℕ) → bytes ≡ (take m bytes ++ take n (drop m bytes)) ++ drop (m + n) bytes
whole_of_parts m n bytes =
    sym (take-append-drop m bytes)
    ∙ (ap (λ xs. take m bytes ++ xs) (sym (take-append-drop n (drop m bytes)))
    ∙ (ap (λ xs. take m bytes ++ (take n (drop m bytes) ++ xs)) (drop_drop m n bytes)
    ∙ sym (append_assoc (take m bytes) (take n (drop m bytes)) (drop (m + n) bytes))))

-- ---- entries

pub same_entry : (a b : SkipEntry) → a.last_doc ≡ b.last_doc → a.doc_width ≡ b.doc_width → a.count_width ≡ b.count_width → a.count_sum ≡ b.count_sum → a.least_id ≡ b.least_id → a.greatest_count ≡ b.greatest_count → a ≡ b
same_entry a b last doc count sum least greatest =
    ap (λ k. record { last_doc = k; doc_width = a.doc_width; count_width = a.count_width; count_sum = a.count_sum; least_id = a.least_id; greatest_count = a.greatest_count }) last
    ∙ (ap (λ k. record { last_doc = b.last_doc; doc_width = k; count_width = a.count_width; count_sum = a.count_sum; least_id = a.least_id; greatest_count = a.greatest_count }) doc
    ∙ (ap (λ k. record { last_doc = b.last_doc; doc_width = b.doc_width; count_width = k; count_sum = a.count_sum; least_id = a.least_id; greatest_count = a.greatest_count }) count
    ∙ (ap (λ k. record { last_doc = b.last_doc; doc_width = b.doc_width; count_width = b.count_width; count_sum = k; least_id = a.least_id; greatest_count = a.greatest_count }) sum
    ∙ (ap (λ k. record { last_doc = b.last_doc; doc_width = b.doc_width; count_width = b.count_width; count_sum = b.count_sum; least_id = k; greatest_count = a.greatest_count }) least
    ∙ ap (λ k. record { last_doc = b.last_doc; doc_width = b.doc_width; count_width = b.count_width; count_sum = b.count_sum; least_id = b.least_id; greatest_count = k }) greatest))))

first_or : SkipEntry → List SkipEntry → SkipEntry
first_or other [] = other
first_or other (e ∷ es) = e

others : List SkipEntry → List SkipEntry
others [] = []
others (e ∷ es) = es

-- ---- the first block

-- a full block, and the blocks behind it
pub record Splits (option : IndexRecordOption) (ids : List ℕ) (num_docs next : ℕ) (e : SkipEntry) (es : List SkipEntry) (n : ℕ) (bytes : List ℕ) (total : ℕ) : Type 0 where
  pub first_total : ℕ
  pub other_total : ℕ
  pub first : BeginsWithBlock option ids num_docs next e bytes first_total
  pub rest : HasBlocks option ids num_docs (e.last_doc + 1) es n (drop (block_size e) bytes) other_total
  pub total_is : total ≡ first_total + other_total

pub blocks_first : (option : IndexRecordOption) (ids : List ℕ) (num_docs next : ℕ) (e : SkipEntry) (es : List SkipEntry) (n : ℕ) (bytes : List ℕ) (total : ℕ) → num_docs ≤ 2 ^ 32 → HasBlocks option ids num_docs next (e ∷ es) n bytes total → Splits option ids num_docs next e es n bytes total
unfolding first_or others
blocks_first option ids num_docs next e es n bytes total few h =
    let docs = h.docs in
    let counts = h.counts in
    let b = h.blocks_are in
    let docs1 = take 128 docs in
    let counts1 = take 128 counts in
    let docs2 = drop 128 docs in
    let counts2 = drop 128 counts in
    let long = b.many in
    let same = b.same in
    let many : 128 ≤ length docs = omega (arith, long) in
    let entry : e ≡ skip_entry option ids next docs1 counts1 = ap (first_or e) b.entries in
    let entries : es ≡ skip_entries option ids (length es) (next_after docs) docs2 counts2 = ap others b.entries in
    let first = packed_bytes (deltas next docs1) in
    let second = if has_freq option then packed_bytes (less_1 counts1) else [] in
    let left = all_blocks option (length es) (next_after docs) docs2 counts2 in
    let doc_block : IsDocBlock ids num_docs next e docs1 first = record {
      docs_are = record { ascending = ascending_take 128 next docs b.docs_are.ascending; within = all_take (λ doc. doc < num_docs) 128 docs b.docs_are.within };
      count = omega (arith, length-take 128 docs, many);
      last = ap (λ x. x.last_doc) entry;
      width = ap (λ x. x.doc_width) entry;
      least = ap (λ x. x.least_id) entry;
      bytes_are = refl;
    } in
    let count_block : IsCountBlock option e counts1 second = record {
      counts_are = record { fit = all_take (λ k. (0 < k) × (k < 2 ^ 32)) 128 counts b.counts_are.fit; alone = λ none. all_take (λ k. k ≡ 1) 128 counts (b.counts_are.alone none) };
      count = omega (arith, length-take 128 counts, many, same);
      sum_fits = λ told. (b.sums_fit told).0;
      width = ap (λ x. x.count_width) entry;
      sum_is = ap (λ x. x.count_sum) entry;
      greatest = ap (λ x. x.greatest_count) entry;
      bytes_are = refl;
    } in
    let parts = three_parts (16 * e.doc_width) (16 * e.count_width) first second left bytes b.bytes_are (docs_long ids num_docs next e docs1 first few doc_block) (counts_long option e counts1 second count_block) in
    let last : next_after docs ≡ e.last_doc + 1 = (let at_last = get_or-take 128 docs 127 0 (omega arith) in let told = doc_block.last in omega (arith, at_last, told)) in
    record {
      first_total = sum counts1;
      other_total = sum counts2;
      first = record {
        docs = docs1;
        counts = counts1;
        docs_are = subst (λ xs. IsDocBlock ids num_docs next e docs1 xs) (sym parts.0) doc_block;
        counts_are = subst (λ xs. IsCountBlock option e counts1 xs) (sym parts.1) count_block;
        total_is = refl;
      };
      rest = record {
        docs = docs2;
        counts = counts2;
        blocks_are = record {
          docs_are = record { ascending = subst (λ k. IsAscendingFrom k docs2) last (ascending_drop 127 next docs b.docs_are.ascending (omega (arith, many))); within = all_drop (λ doc. doc < num_docs) 128 docs b.docs_are.within };
          counts_are = record { fit = all_drop (λ k. (0 < k) × (k < 2 ^ 32)) 128 counts b.counts_are.fit; alone = λ none. all_drop (λ k. k ≡ 1) 128 counts (b.counts_are.alone none) };
          many = omega (arith, length-drop 128 docs, long);
          same = omega (arith, length-drop 128 docs, length-drop 128 counts, same);
          sums_fit = λ told. (b.sums_fit told).1;
          entries = subst (λ k. es ≡ skip_entries option ids (length es) k docs2 counts2) last entries;
          bytes_are = subst (λ k. drop (block_size e) bytes ≡ all_blocks option (length es) k docs2 counts2) last parts.2;
        };
        total_is = refl;
      };
      total_is = h.total_is ∙ sym (sum_by-take-drop (λ x. x) counts 128);
    }

-- ---- one block more

pub blocks_more : (option : IndexRecordOption) (ids : List ℕ) (num_docs next : ℕ) (e : SkipEntry) (es : List SkipEntry) (n : ℕ) (bytes : List ℕ) (first_total other_total : ℕ) → BeginsWithBlock option ids num_docs next e bytes first_total → HasBlocks option ids num_docs (e.last_doc + 1) es n (drop (block_size e) bytes) other_total → HasBlocks option ids num_docs next (e ∷ es) n bytes (first_total + other_total)
blocks_more option ids num_docs next e es n bytes first_total other_total f r =
    let docs = f.docs ++ r.docs in
    let counts = f.counts ++ r.counts in
    let d = f.docs_are in
    let k = f.counts_are in
    let b = r.blocks_are in
    let docs1 : take 128 docs ≡ f.docs = first_of 128 f.docs r.docs d.count in
    let docs2 : drop 128 docs ≡ r.docs = behind 128 f.docs r.docs d.count in
    let counts1 : take 128 counts ≡ f.counts = first_of 128 f.counts r.counts k.count in
    let counts2 : drop 128 counts ≡ r.counts = behind 128 f.counts r.counts k.count in
    let at_last : get_or docs 127 0 ≡ get_or f.docs 127 0 = sym (get_or-take 128 docs 127 0 (omega arith)) ∙ ap (λ xs. get_or xs 127 0) docs1 in
    let last : next_after docs ≡ e.last_doc + 1 = (let told = d.last in omega (arith, at_last, told)) in
    let entry : e ≡ skip_entry option ids next f.docs f.counts = same_entry e (skip_entry option ids next f.docs f.counts) d.last d.width k.width k.sum_is d.least k.greatest in
    let entry_is : e ≡ skip_entry option ids next (take 128 docs) (take 128 counts) = entry ∙ ap₂ (λ xs ys. skip_entry option ids next xs ys) (sym docs1) (sym counts1) in
    let entries_are : es ≡ skip_entries option ids (length es) (next_after docs) (drop 128 docs) (drop 128 counts) = b.entries ∙ (ap (λ m. skip_entries option ids (length es) m r.docs r.counts) (sym last) ∙ ap₂ (λ xs ys. skip_entries option ids (length es) (next_after docs) xs ys) (sym docs2) (sym counts2)) in
    let block : full_block option next f.docs f.counts ≡ full_block option next (take 128 docs) (take 128 counts) = ap₂ (λ xs ys. full_block option next xs ys) (sym docs1) (sym counts1) in
    let left : drop (block_size e) bytes ≡ all_blocks option (length es) (next_after docs) (drop 128 docs) (drop 128 counts) = b.bytes_are ∙ (ap (λ m. all_blocks option (length es) m r.docs r.counts) (sym last) ∙ ap₂ (λ xs ys. all_blocks option (length es) (next_after docs) xs ys) (sym docs2) (sym counts2)) in
    let parts : bytes ≡ full_block option next f.docs f.counts ++ drop (block_size e) bytes = whole_of_parts (16 * e.doc_width) (16 * e.count_width) bytes ∙ ap₂ (λ xs ys. (xs ++ ys) ++ drop (block_size e) bytes) d.bytes_are k.bytes_are in
    let doc_count = d.count in
    let count_count = k.count in
    let many = b.many in
    let same = b.same in
    record {
      docs = docs;
      counts = counts;
      blocks_are = record {
        docs_are = record {
          ascending = ascending_join 127 next f.docs r.docs d.count d.docs_are.ascending (subst (λ m. IsAscendingFrom m r.docs) (ap (λ m. m + 1) d.last) b.docs_are.ascending);
          within = all_append (λ doc. doc < num_docs) f.docs r.docs d.docs_are.within b.docs_are.within;
        };
        counts_are = record {
          fit = all_append (λ m. (0 < m) × (m < 2 ^ 32)) f.counts r.counts k.counts_are.fit b.counts_are.fit;
          alone = λ none. all_append (λ m. m ≡ 1) f.counts r.counts (k.counts_are.alone none) (b.counts_are.alone none);
        };
        many = omega (arith, length-append f.docs r.docs, doc_count, many);
        same = omega (arith, length-append f.docs r.docs, length-append f.counts r.counts, doc_count, count_count, same);
        sums_fit = λ told. (subst (λ xs. sum xs < 2 ^ 32) (sym counts1) (k.sum_fits told), subst (λ xs. SumsFit (length es) xs) (sym counts2) (b.sums_fit told));
        entries = ap₂ (λ x xs. x ∷ xs) entry_is entries_are;
        bytes_are = parts ∙ ap₂ (λ xs ys. xs ++ ys) block left;
      };
      total_is = ap₂ (λ x y. x + y) f.total_is r.total_is ∙ sym (sum_by-append (λ x. x) f.counts r.counts);
    }
