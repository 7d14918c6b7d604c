-- Fewer than 128 documents that are read and checked.
use Rattle.std.proofs.Common.{[], List, None, Option, Some, ap, ap₂, append-nil, arith, false, if◌then◌else◌, length, refl, replicate, subst, sum, sym, true, ◌++◌, ◌+◌, ◌-◌, ◌<◌, ◌≡◌, ◌≤◌, ◌∙◌, ◌∷◌, ◌^◌, ℕ}
use Rattle.std.proofs.lemmas.List.{length-map}
use Rattle.std.specs.List.{AllByRecursion}
use Rattle.segment_postings.proofs.BlockChecks.{fit_small, less_more, more_fit, ones_are, sum_ones, wider, length_ones}
use Rattle.segment_postings.specs.Blocks.{HasBlocks, HasRestCounts, more_1}
use Rattle.codes.proofs.VintListLaws.{documents_back, documents_stood, numbers_back, numbers_stood}
use Rattle.common.proofs.TakenBack.{string_of as list_in}
use Rattle.definitions.specs.NumberCodes.{AreBytes}
use Rattle.definitions.specs.Schema.{IndexRecordOption, has_freq}
use Rattle.layouts.specs.Deltas.{next_of}
use Rattle.layouts.specs.TermPostings.{less_1}
use Rattle.layouts.specs.VintBlocks.{documents_bytes, numbers_bytes, take_documents, take_numbers}

abbrev pub left_in : Option (List ℕ × List ℕ) → List ℕ
left_in None = []
left_in (Some p) = p.1

-- ---- counts

pub rest_counts_read : (option : IndexRecordOption) (n : ℕ) (bytes held : List ℕ) (total : ℕ) → has_freq option ≡ true → AreBytes bytes → take_numbers n bytes ≡ Some (held, []) → AllByRecursion (λ k. k < 2 ^ 32) (more_1 held) → total ≡ sum (more_1 held) → HasRestCounts option n bytes total
rest_counts_read option n bytes held total recorded digits taken fit total_is =
    let stood = numbers_stood n bytes held [] digits taken in
    record {
      counts = more_1 held;
      counts_are = record { fit = more_fit held fit; alone = λ none. absurd (let apart : true ≡ false = sym recorded ∙ none in cc) };
      many = length-map held (λ k. k + 1) ∙ stood.0;
      bytes_are = stood.2 ∙ (append-nil (numbers_bytes held) ∙ (ap numbers_bytes (sym (less_more held)) ∙ ap (λ b. if b then numbers_bytes (less_1 (more_1 held)) else []) (sym recorded)));
      total_is = total_is;
    }

small_less : (counts : List ℕ) → AllByRecursion (λ n. n < 2 ^ 32) counts → AllByRecursion (λ n. n < 2 ^ 32) (less_1 counts)
small_less [] all = tt
small_less (n ∷ ns) all = ((let h = all.0 in omega (arith, h)), small_less ns all.1)

pub rest_counts_taken : (option : IndexRecordOption) (n : ℕ) (bytes : List ℕ) (total : ℕ) → has_freq option ≡ true → (h : HasRestCounts option n bytes total) → take_numbers n bytes ≡ Some (less_1 h.counts, [])
rest_counts_taken option n bytes total recorded h =
    let ls = less_1 h.counts in
    let is : bytes ≡ numbers_bytes ls ++ [] = h.bytes_are ∙ (ap (λ b. if b then numbers_bytes ls else []) recorded ∙ sym (append-nil (numbers_bytes ls))) in
    let long : n ≡ length ls = sym (length-map h.counts (λ k. k - 1) ∙ h.many) in
    ap₂ take_numbers long is ∙ numbers_back ls [] (small_less h.counts (fit_small h.counts h.counts_are.fit))

pub rest_ones : (option : IndexRecordOption) (n : ℕ) (bytes : List ℕ) → has_freq option ≡ false → bytes ≡ [] → HasRestCounts option n bytes n
rest_ones option n bytes none empty = record {
  counts = replicate n 1;
  counts_are = ones_are option n;
  many = length_ones n;
  bytes_are = empty ∙ ap (λ b. if b then numbers_bytes (less_1 (replicate n 1)) else []) (sym none);
  total_is = sym (sum_ones n);
}

pub rest_unrecorded : (option : IndexRecordOption) (n : ℕ) (bytes : List ℕ) (total : ℕ) → has_freq option ≡ false → HasRestCounts option n bytes total → bytes ≡ []
rest_unrecorded option n bytes total none h = h.bytes_are ∙ ap (λ b. if b then numbers_bytes (less_1 h.counts) else []) none

-- ---- documents and counts

pub rest_is : (option : IndexRecordOption) (ids : List ℕ) (num_docs before n : ℕ) (bytes docs left : List ℕ) (total : ℕ) → AreBytes bytes → take_documents before n bytes ≡ Some (docs, left) → AllByRecursion (λ doc. doc < num_docs) docs → HasRestCounts option n left total → HasBlocks option ids num_docs (next_of before) [] n bytes total
rest_is option ids num_docs before n bytes docs left total digits taken within h =
    let stood = documents_stood before n bytes docs left digits taken in
    let count = stood.0 in
    let many = h.many in
    record {
      docs = docs;
      counts = h.counts;
      blocks_are = record {
        docs_are = record { ascending = stood.1; within = within };
        counts_are = h.counts_are;
        many = omega (arith, count);
        same = omega (arith, count, many);
        sums_fit = λ told. tt;
        entries = refl;
        bytes_are = stood.3 ∙ ap (λ xs. documents_bytes before docs ++ xs) h.bytes_are;
      };
      total_is = h.total_is;
    }

-- what is read of such bytes
pub record RestRead (option : IndexRecordOption) (num_docs before n : ℕ) (bytes : List ℕ) (total : ℕ) : Type 0 where
  pub docs : List ℕ
  pub left : List ℕ
  pub taken : take_documents before n bytes ≡ Some (docs, left)
  pub within : AllByRecursion (λ doc. doc < num_docs) docs
  pub counts : HasRestCounts option n left total

pub rest_read : (option : IndexRecordOption) (ids : List ℕ) (num_docs before n : ℕ) (bytes : List ℕ) (total : ℕ) → num_docs ≤ 2 ^ 32 → HasBlocks option ids num_docs (next_of before) [] n bytes total → RestRead option num_docs before n bytes total
rest_read option ids num_docs before n bytes total few h =
    let b = h.blocks_are in
    let tail = if has_freq option then numbers_bytes (less_1 h.counts) else [] in
    let many = b.many in
    let same = b.same in
    let long : n ≡ length h.docs = omega (arith, many) in
    record {
      docs = h.docs;
      left = tail;
      taken = ap₂ (λ k xs. take_documents before k xs) long b.bytes_are ∙ documents_back before h.docs tail b.docs_are.ascending (wider num_docs (2 ^ 32) h.docs few b.docs_are.within);
      within = b.docs_are.within;
      counts = record { counts = h.counts; counts_are = b.counts_are; many = omega (arith, long, same); bytes_are = refl; total_is = h.total_is };
    }

pub rest_held : (option : IndexRecordOption) (num_docs before n : ℕ) (bytes docs left : List ℕ) (total : ℕ) → take_documents before n bytes ≡ Some (docs, left) → RestRead option num_docs before n bytes total → AllByRecursion (λ doc. doc < num_docs) docs × HasRestCounts option n left total
rest_held option num_docs before n bytes docs left total taken r =
    let both : Some (r.docs, r.left) ≡ Some (docs, left) = sym r.taken ∙ taken in
    (subst (λ xs. AllByRecursion (λ doc. doc < num_docs) xs) (ap list_in both) r.within, subst (λ xs. HasRestCounts option n xs total) (ap left_in both) r.counts)
