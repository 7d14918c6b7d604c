-- A term's postings as they are opened.
use Rattle.std.proofs.Common.{[], Bool, IsSome, List, Some, ap, arith, length, length-append, refl, replicate, subst, sym, true, ◌%◌, ◌++◌, ◌/◌, ◌<◌, ◌≡◌, ◌≤◌, ◌∙◌, ◌∷◌, ◌^◌, ◌⊎◌, inl, inr, ℕ, if◌then◌else◌}
use Rattle.std.proofs.lemmas.Bool.{cases_lt}
use Rattle.common.proofs.DigitNumbers.{AreDigits}
use Rattle.common.proofs.TakenBack.{bytes_back}
use Rattle.definitions.specs.NumberCodes.{sized_bytes, take_bytes, vint_bytes}
use Rattle.definitions.specs.Schema.{IndexRecordOption, has_freq, has_positions}
use Rattle.layouts.specs.SkipEntries.{AreSkips, SkipEntry, skip_bytes}
use Rattle.layouts.specs.TermPostings.{all_blocks, postings_bytes, skip_data, skip_entries}
use Rattle.segment_postings.proofs.EntriesStand.{entries_stand, many_entries}
use Rattle.segment_postings.proofs.ReadBack.{all_back, digits_behind, posted_from}
use Rattle.segment_postings.specs.Reading.{AreReadable, HasPostings, StandsIn, counts_at, counts_in, docs_at, docs_in, found}
use Rattle.codes.specs.SkipBlocks.{Skips, begun}

-- ---- where the entries end

pub sized : (option : IndexRecordOption) (es : List SkipEntry) → 0 < length es → skip_data option es ≡ sized_bytes (skip_bytes (has_freq option) (has_positions option) es)
sized option [] some = absurd (omega arith)
sized option (e ∷ es) some = refl

-- the entries, and the blocks behind them
abbrev pub entries : (option : IndexRecordOption) (ids docs counts : List ℕ) → List SkipEntry
entries option ids docs counts = skip_entries option ids (length docs / 128) 0 docs counts

abbrev pub blocks : (option : IndexRecordOption) (docs counts : List ℕ) → List ℕ
blocks option docs counts = all_blocks option (length docs / 128) 0 docs counts

parts_are : (option : IndexRecordOption) (ids docs counts : List ℕ) → postings_bytes option ids docs counts ≡ skip_data option (entries option ids docs counts) ++ blocks option docs counts
unfolding postings_bytes
parts_are option ids docs counts = refl

few_parts : (option : IndexRecordOption) (ids docs counts : List ℕ) → length docs < 128 → (skip_bytes (has_freq option) (has_positions option) (entries option ids docs counts) ≡ []) × (postings_bytes option ids docs counts ≡ blocks option docs counts)
few_parts option ids docs counts few =
    let none : length docs / 128 ≡ 0 = omega (arith, few) in
    let no_entries : entries option ids docs counts ≡ [] = ap (λ k. skip_entries option ids k 0 docs counts) none in
    (ap (skip_bytes (has_freq option) (has_positions option)) no_entries, parts_are option ids docs counts ∙ ap (λ es. skip_data option es ++ blocks option docs counts) no_entries)

many_parts : (option : IndexRecordOption) (ids docs counts : List ℕ) → 128 ≤ length docs → postings_bytes option ids docs counts ≡ sized_bytes (skip_bytes (has_freq option) (has_positions option) (entries option ids docs counts)) ++ blocks option docs counts
many_parts option ids docs counts many =
    let count = many_entries option ids (length docs / 128) 0 docs counts in
    parts_are option ids docs counts ∙ ap (λ xs. xs ++ blocks option docs counts) (sized option (entries option ids docs counts) (omega (arith, count, many)))

-- ---- the parts of known bytes

pub record Parts (c p : Bool) (n : ℕ) (bytes docs counts s b : List ℕ) (h : HasPostings c p n bytes docs counts) : Type 0 where
  pub skips : s ≡ skip_bytes (has_freq h.option) (has_positions h.option) (entries h.option h.ids docs counts)
  pub rest : b ≡ blocks h.option docs counts
  pub digits : AreDigits 256 (blocks h.option docs counts)

pub taken_known : (c p : Bool) (n : ℕ) (bytes docs counts : List ℕ) (h : HasPostings c p n bytes docs counts) → length bytes < 2 ^ 64 → 128 ≤ n → take_bytes bytes ≡ Some (skip_bytes (has_freq h.option) (has_positions h.option) (entries h.option h.ids docs counts), blocks h.option docs counts)
taken_known c p n bytes docs counts h short many =
    let count = h.many in
    let sk = skip_bytes (has_freq h.option) (has_positions h.option) (entries h.option h.ids docs counts) in
    let is : bytes ≡ sized_bytes sk ++ blocks h.option docs counts = h.postings.bytes_are ∙ many_parts h.option h.ids docs counts (omega (arith, many, count)) in
    let long = ap length is in
    ap take_bytes is ∙ bytes_back sk (blocks h.option docs counts) (omega (arith, short, long, length-append (sized_bytes sk) (blocks h.option docs counts), sized_long sk))
  where
    sized_long : (xs : List ℕ) → length xs ≤ length (sized_bytes xs)
    sized_long xs = omega (arith, length-append (vint_bytes (length xs)) xs)

pub parts_known : (c p : Bool) (n : ℕ) (bytes docs counts s b : List ℕ) (h : HasPostings c p n bytes docs counts) → length bytes < 2 ^ 64 → AreDigits 256 bytes → (n < 128 → (s ≡ []) × (b ≡ bytes)) → (128 ≤ n → take_bytes bytes ≡ Some (s, b)) → Parts c p n bytes docs counts s b h
parts_known c p n bytes docs counts s b h short digits few many = go (cases_lt n 128)
  where
    go : (n < 128) ⊎ (128 ≤ n) → Parts c p n bytes docs counts s b h
    go (inl less) =
        let count = h.many in
        let parts = few_parts h.option h.ids docs counts (omega (arith, less, count)) in
        let is : bytes ≡ blocks h.option docs counts = h.postings.bytes_are ∙ parts.1 in
        record { skips = (few less).0 ∙ sym parts.0; rest = (few less).1 ∙ is; digits = subst (AreDigits 256) is digits }
    go (inr more) =
        let count = h.many in
        let sk = skip_bytes (has_freq h.option) (has_positions h.option) (entries h.option h.ids docs counts) in
        let is : bytes ≡ sized_bytes sk ++ blocks h.option docs counts = h.postings.bytes_are ∙ many_parts h.option h.ids docs counts (omega (arith, more, count)) in
        let same = sym (many more) ∙ taken_known c p n bytes docs counts h short more in
        record { skips = ap (λ o. (found o).0) same; rest = ap (λ o. (found o).1) same; digits = digits_behind (sized_bytes sk) (blocks h.option docs counts) (subst (AreDigits 256) is digits) }

-- ---- a cursor at the first block

pub known_skips : (c p : Bool) (n : ℕ) (bytes docs counts s b : List ℕ) (h : HasPostings c p n bytes docs counts) → Parts c p n bytes docs counts s b h → AreSkips c p (n / 128) s (entries h.option h.ids docs counts)
known_skips c p n bytes docs counts s b h parts =
    let es = entries h.option h.ids docs counts in
    let posted = h.postings.posted in
    let stands : AreSkips (has_freq h.option) (has_positions h.option) (length docs / 128) (skip_bytes (has_freq h.option) (has_positions h.option) es) es = record {
      many = many_entries h.option h.ids (length docs / 128) 0 docs counts;
      bytes_are = refl;
      sound = entries_stand h.option h.ids (length docs / 128) 0 (length docs % 128) docs counts (posted_from h.option docs counts posted) (omega arith) posted.alone posted.sums_fit;
    } in
    subst (λ xs. AreSkips c p (n / 128) xs es) (sym parts.skips)
    (subst (λ k. AreSkips c p (k / 128) (skip_bytes (has_freq h.option) (has_positions h.option) es) es) h.many
    (subst (λ q. AreSkips c q (length docs / 128) (skip_bytes (has_freq h.option) (has_positions h.option) es) es) h.positions_are
    (subst (λ q. AreSkips q (has_positions h.option) (length docs / 128) (skip_bytes (has_freq h.option) (has_positions h.option) es) es) h.counts_are stands)))

pub record Opened (reads sums : Bool) (n : ℕ) (docs counts b : List ℕ) (s : Skips) : Type 0 where
  pub stands : StandsIn reads sums 0 s b
  pub docs_are : docs_at 0 s b ≡ docs
  pub counts_are : counts_at reads 0 s b ≡ (if reads then counts else replicate n 1)

pub opened : (c p reads sums : Bool) (n : ℕ) (bytes docs counts s b : List ℕ) (h : HasPostings c p n bytes docs counts) → Parts c p n bytes docs counts s b h → (reads ≡ true → c ≡ true) → (sums ≡ true → (p ≡ true) × (reads ≡ true)) → (skips : Skips) → skips ≡ begun c p n (entries h.option h.ids docs counts) → Opened reads sums n docs counts b skips
opened c p reads sums n bytes docs counts s b h parts recorded told skips begins =
    let es = entries h.option h.ids docs counts in
    let body = blocks h.option docs counts in
    let count = h.many in
    let all = all_back h.option h.ids reads sums (length docs / 128) 0 0 (length docs % 128) docs counts (posted_from h.option docs counts h.postings.posted) (omega arith) (omega arith) refl (λ r. h.counts_are ∙ recorded r) (λ r. (h.positions_are ∙ (told r).0, (told r).1)) parts.digits in
    let rest : length docs % 128 ≡ n % 128 = ap (λ k. k % 128) count in
    let made : Opened reads sums n docs counts body (begun c p n es) = record {
      stands = record { within = omega arith; readable = subst (λ k. AreReadable reads sums 0 es k body) rest all.readable };
      docs_are = ap (λ k. docs_in 0 es k body) (sym rest) ∙ all.docs_back;
      counts_are = ap (λ k. counts_in reads 0 es k body) (sym rest) ∙ (all.counts_back ∙ ap (λ k. if reads then counts else replicate k 1) count);
    } in
    subst (λ t. Opened reads sums n docs counts b t) (sym begins) (subst (λ xs. Opened reads sums n docs counts xs (begun c p n es)) (sym parts.rest) made)

pub some_taken : (c p : Bool) (n : ℕ) (bytes docs counts : List ℕ) (h : HasPostings c p n bytes docs counts) → length bytes < 2 ^ 64 → 128 ≤ n → IsSome (take_bytes bytes)
some_taken c p n bytes docs counts h short many = subst (λ o. IsSome o) (sym (taken_known c p n bytes docs counts h short many)) refl
