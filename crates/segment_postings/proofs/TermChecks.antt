-- The postings of a term: skip entries, and blocks.
use Rattle.std.proofs.Common.{[], Bool, List, None, Some, ap, ap₂, arith, length, refl, subst, sym, ◌%◌, ◌++◌, ◌/◌, ◌<◌, ◌≡◌, ◌≤◌, ◌∙◌, ◌∷◌, ◌^◌, ◌⊎◌, inl, inr, ℕ}
use Rattle.std.proofs.lemmas.Bool.{cases_lt}
use Rattle.segment_postings.proofs.BlockChecks.{wider}
use Rattle.segment_postings.specs.Blocks.{HasBlocks}
use Rattle.segment_postings.specs.Terms.{HasTerm}
use Rattle.common.proofs.DigitNumbers.{AreDigits}
use Rattle.common.proofs.TakenBack.{bytes_put}
use Rattle.definitions.specs.NumberCodes.{sized_bytes, take_bytes}
use Rattle.definitions.specs.Postings.{terminated}
use Rattle.definitions.specs.Schema.{IndexRecordOption, has_freq, has_positions}
use Rattle.layouts.specs.SkipEntries.{AreSkips, SkipEntry}
use Rattle.layouts.specs.TermPostings.{SumsFit, all_blocks, postings_bytes, skip_data, skip_entries}
use Rattle.segment_postings.proofs.Opening.{known_skips, parts_known, taken_known, sized}
use Rattle.segment_postings.specs.Reading.{HasPostings}

-- the parts of a term's bytes: entries, and blocks
pub record AreParts (doc_freq : ℕ) (bytes s b : List ℕ) : Type 0 where
  pub few : doc_freq < 128 → (s ≡ []) × (b ≡ bytes)
  pub many : 128 ≤ doc_freq → take_bytes bytes ≡ Some (s, b)

no_data : (option : IndexRecordOption) (es : List SkipEntry) → length es ≡ 0 → skip_data option es ≡ []
no_data option [] none = refl
no_data option (e ∷ es) none = absurd (omega (arith, none))

postings_are : (option : IndexRecordOption) (ids docs counts : List ℕ) (k : ℕ) (es : List SkipEntry) → length docs / 128 ≡ k → es ≡ skip_entries option ids k 0 docs counts → postings_bytes option ids docs counts ≡ skip_data option es ++ all_blocks option k 0 docs counts
unfolding postings_bytes
postings_are option ids docs counts k es blocks entries =
    ap (λ j. skip_data option (skip_entries option ids j 0 docs counts) ++ all_blocks option j 0 docs counts) blocks
    ∙ ap (λ xs. skip_data option xs ++ all_blocks option k 0 docs counts) (sym entries)

-- entries and blocks are those of a term
pub term_is : (option : IndexRecordOption) (ids : List ℕ) (num_docs doc_freq : ℕ) (bytes s b : List ℕ) (left : List SkipEntry) (total : ℕ) → num_docs ≤ 2147483647 → AreDigits 256 bytes → AreParts doc_freq bytes s b → AreSkips (has_freq option) (has_positions option) (doc_freq / 128) s left → HasBlocks option ids num_docs 0 left (doc_freq % 128) b total → HasTerm option ids num_docs doc_freq bytes total
term_is option ids num_docs doc_freq bytes s b left total few digits parts skips h =
    let a = h.blocks_are in
    let many = a.many in
    let count = skips.many in
    let freq : length h.docs ≡ doc_freq = omega (arith, many, count) in
    let blocks : length h.docs / 128 ≡ length left = ap (λ k. k / 128) freq ∙ sym count in
    let body = all_blocks option (length left) 0 h.docs h.counts in
    let is : postings_bytes option ids h.docs h.counts ≡ skip_data option left ++ body = postings_are option ids h.docs h.counts (length left) left blocks a.entries in
    record {
      docs = h.docs;
      counts = h.counts;
      many = freq;
      within = a.docs_are.within;
      postings = record {
        posted = record {
          same = a.same;
          ascending = a.docs_are.ascending;
          docs_fit = wider num_docs terminated h.docs few a.docs_are.within;
          counts_fit = a.counts_are.fit;
          alone = a.counts_are.alone;
          sums_fit = λ told. subst (λ k. SumsFit k h.counts) (sym blocks) (a.sums_fit told);
        };
        bytes_are = go body is a.bytes_are (cases_lt doc_freq 128);
      };
      total_is = h.total_is;
    }
  where
    go : (body : List ℕ) → postings_bytes option ids h.docs h.counts ≡ skip_data option left ++ body → b ≡ body → (doc_freq < 128) ⊎ (128 ≤ doc_freq) → bytes ≡ postings_bytes option ids h.docs h.counts
    go body is whole (inl less) =
        let count = skips.many in
        let none : length left ≡ 0 = omega (arith, count, less) in
        sym (parts.few less).1 ∙ (whole ∙ (ap (λ xs. xs ++ body) (sym (no_data option left none)) ∙ sym is))
    go body is whole (inr more) =
        let count = skips.many in
        let some : 0 < length left = omega (arith, count, more) in
        (bytes_put bytes s b digits (parts.many more)).1 ∙ (ap₂ (λ xs ys. sized_bytes xs ++ ys) skips.bytes_are whole ∙ (ap (λ xs. xs ++ body) (sym (sized option left some)) ∙ sym is))

-- the same recorded
pub skips_as : (c d p q : Bool) (n : ℕ) (s : List ℕ) (es : List SkipEntry) → c ≡ d → p ≡ q → AreSkips c p n s es → AreSkips d q n s es
skips_as c d p q n s es counts positions skips = subst (λ b. AreSkips d b n s es) positions (subst (λ b. AreSkips b p n s es) counts skips)

-- ---- what the bytes of a term have

abbrev pub known : (option : IndexRecordOption) (ids : List ℕ) (num_docs doc_freq : ℕ) (bytes : List ℕ) (total : ℕ) (h : HasTerm option ids num_docs doc_freq bytes total) → HasPostings (has_freq option) (has_positions option) doc_freq bytes h.docs h.counts
known option ids num_docs doc_freq bytes total h = record { option = option; ids = ids; postings = h.postings; many = h.many; counts_are = refl; positions_are = refl }

pub term_untaken : (option : IndexRecordOption) (ids : List ℕ) (num_docs doc_freq : ℕ) (bytes : List ℕ) (total : ℕ) → length bytes < 2 ^ 64 → 128 ≤ doc_freq → take_bytes bytes ≡ None → HasTerm option ids num_docs doc_freq bytes total → ⊥
term_untaken option ids num_docs doc_freq bytes total short many none h =
    let taken = taken_known (has_freq option) (has_positions option) doc_freq bytes h.docs h.counts (known option ids num_docs doc_freq bytes total h) short many in
    absurd (cc (sym none ∙ taken))

-- its entries
pub term_skips : (option : IndexRecordOption) (ids : List ℕ) (num_docs doc_freq : ℕ) (bytes s b : List ℕ) (total : ℕ) → length bytes < 2 ^ 64 → AreDigits 256 bytes → AreParts doc_freq bytes s b → (h : HasTerm option ids num_docs doc_freq bytes total) → AreSkips (has_freq option) (has_positions option) (doc_freq / 128) s (skip_entries option ids (length h.docs / 128) 0 h.docs h.counts)
term_skips option ids num_docs doc_freq bytes s b total short digits parts h =
    let is = known option ids num_docs doc_freq bytes total h in
    known_skips (has_freq option) (has_positions option) doc_freq bytes h.docs h.counts s b is (parts_known (has_freq option) (has_positions option) doc_freq bytes h.docs h.counts s b is short digits parts.few parts.many)

-- its blocks
pub term_blocks : (option : IndexRecordOption) (ids : List ℕ) (num_docs doc_freq : ℕ) (bytes s b : List ℕ) (left : List SkipEntry) (total : ℕ) → length bytes < 2 ^ 64 → AreDigits 256 bytes → AreParts doc_freq bytes s b → length left ≡ doc_freq / 128 → (h : HasTerm option ids num_docs doc_freq bytes total) → skip_entries option ids (length h.docs / 128) 0 h.docs h.counts ≡ left → HasBlocks option ids num_docs 0 left (doc_freq % 128) b total
term_blocks option ids num_docs doc_freq bytes s b left total short digits parts count h entries =
    let is = known option ids num_docs doc_freq bytes total h in
    let p = parts_known (has_freq option) (has_positions option) doc_freq bytes h.docs h.counts s b is short digits parts.few parts.many in
    let posted = h.postings.posted in
    let freq = h.many in
    let blocks : length h.docs / 128 ≡ length left = ap (λ k. k / 128) freq ∙ sym count in
    record {
      docs = h.docs;
      counts = h.counts;
      blocks_are = record {
        docs_are = record { ascending = posted.ascending; within = h.within };
        counts_are = record { fit = posted.counts_fit; alone = posted.alone };
        many = omega (arith, freq, count);
        same = posted.same;
        sums_fit = λ told. subst (λ k. SumsFit k h.counts) blocks (posted.sums_fit told);
        entries = sym entries ∙ ap (λ k. skip_entries option ids k 0 h.docs h.counts) blocks;
        bytes_are = p.rest ∙ ap (λ k. all_blocks option k 0 h.docs h.counts) blocks;
      };
      total_is = h.total_is;
    }
