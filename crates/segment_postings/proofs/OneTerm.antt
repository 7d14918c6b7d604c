-- The bytes of a term have one reading.
use Rattle.std.proofs.Common.{[], Bool, List, Some, ap, ap₂, arith, false, if◌then◌else◌, length, map, refl, replicate, sym, true, ◌<◌, ◌≡◌, ◌≤◌, ◌∙◌, ◌∷◌, ◌^◌, ◌⊎◌, inl, inr, ◌/◌, ℕ}
use Rattle.std.proofs.lemmas.Bool.{cases_lt}
use Rattle.std.proofs.lemmas.List.{length-map}
use Rattle.std.specs.List.{AllByRecursion}
use Rattle.definitions.proofs.Lists.{no_numbers}
use Rattle.segment_postings.specs.Placed.{term_of}
use Rattle.codes.proofs.PositionNumbers.{same_documents}
use Rattle.codes.proofs.PositionsOpened.{one_list}
use Rattle.common.proofs.DigitNumbers.{AreDigits}
use Rattle.definitions.specs.NumberCodes.{take_bytes}
use Rattle.definitions.specs.Postings.{Posting}
use Rattle.definitions.specs.Schema.{IndexRecordOption, has_freq, has_positions}
use Rattle.definitions.specs.Scoring.{DontFall}
use Rattle.layouts.specs.InvertedIndexes.{HasPositions, IsPosting, IsTerm}
use Rattle.layouts.specs.Positions.{position_numbers}
use Rattle.layouts.specs.SkipEntries.{skip_bytes}
use Rattle.segment_postings.proofs.Opening.{blocks, entries, known_skips, opened, parts_known, taken_known}
use Rattle.segment_postings.specs.Reading.{HasPostings}
use Rattle.codes.proofs.SkipLaws.{one_reading}
use Rattle.codes.specs.SkipBlocks.{begun}

-- ---- documents and counts

-- two lists of documents and counts are one
pub record AreSame (docs counts other_docs other_counts : List ℕ) (n : ℕ) (reads : Bool) : Type 0 where
  pub docs_are : docs ≡ other_docs
  pub counts_are : (if reads then counts else replicate n 1) ≡ (if reads then other_counts else replicate n 1)

same_from : (c p : Bool) (n : ℕ) (bytes docs counts other_docs other_counts s b : List ℕ) → length bytes < 2 ^ 64 → AreDigits 256 bytes → (n < 128 → (s ≡ []) × (b ≡ bytes)) → (128 ≤ n → take_bytes bytes ≡ Some (s, b)) → HasPostings c p n bytes docs counts → HasPostings c p n bytes other_docs other_counts → AreSame docs counts other_docs other_counts n c
same_from c p n bytes docs counts other_docs other_counts s b short digits few many h g =
    let parts = parts_known c p n bytes docs counts s b h short digits few many in
    let other_parts = parts_known c p n bytes other_docs other_counts s b g short digits few many in
    let es = entries h.option h.ids docs counts in
    let fs = entries g.option g.ids other_docs other_counts in
    let same : es ≡ fs = one_reading c p (n / 128) (n / 128) s es fs (known_skips c p n bytes docs counts s b h parts) (known_skips c p n bytes other_docs other_counts s b g other_parts) in
    let skips = begun c p n es in
    let first = opened c p c false n bytes docs counts s b h parts (λ r. r) (λ r. absurd cc) skips refl in
    let second = opened c p c false n bytes other_docs other_counts s b g other_parts (λ r. r) (λ r. absurd cc) skips (ap (λ xs. begun c p n xs) same) in
    record { docs_are = sym first.docs_are ∙ second.docs_are; counts_are = sym first.counts_are ∙ second.counts_are }

pub same_postings : (c p : Bool) (n : ℕ) (bytes docs counts other_docs other_counts : List ℕ) → length bytes < 2 ^ 64 → AreDigits 256 bytes → HasPostings c p n bytes docs counts → HasPostings c p n bytes other_docs other_counts → AreSame docs counts other_docs other_counts n c
same_postings c p n bytes docs counts other_docs other_counts short digits h g = go (cases_lt n 128)
  where
    go : (n < 128) ⊎ (128 ≤ n) → AreSame docs counts other_docs other_counts n c
    go (inl less) = same_from c p n bytes docs counts other_docs other_counts [] bytes short digits (λ l. (refl, refl)) (λ more. absurd (omega (arith, less, more))) h g
    go (inr more) = same_from c p n bytes docs counts other_docs other_counts (skip_bytes (has_freq h.option) (has_positions h.option) (entries h.option h.ids docs counts)) (blocks h.option docs counts) short digits (λ less. absurd (omega (arith, less, more))) (λ l. taken_known c p n bytes docs counts h short more) h g

-- lists of 1 alone
same_ones : (xs ys : List ℕ) → length xs ≡ length ys → AllByRecursion (λ n. n ≡ 1) xs → AllByRecursion (λ n. n ≡ 1) ys → xs ≡ ys
same_ones [] [] long first second = refl
same_ones [] (y ∷ ys) long first second = absurd (omega (arith, long))
same_ones (x ∷ xs) [] long first second = absurd (omega (arith, long))
same_ones (x ∷ xs) (y ∷ ys) long first second = ap₂ (λ z zs. z ∷ zs) (first.0 ∙ sym second.0) (same_ones xs ys (omega (arith, long)) first.1 second.1)

same_counts : (c : Bool) (n : ℕ) (xs ys : List ℕ) → length xs ≡ length ys → (c ≡ false → AllByRecursion (λ n. n ≡ 1) xs) → (c ≡ false → AllByRecursion (λ n. n ≡ 1) ys) → (if c then xs else replicate n 1) ≡ (if c then ys else replicate n 1) → xs ≡ ys
same_counts true n xs ys long first second same = same
same_counts false n xs ys long first second same = same_ones xs ys long (first refl) (second refl)

-- ---- positions

falls_of : (recorded : Bool) (num_docs : ℕ) (ps : List Posting) → AllByRecursion (IsPosting recorded num_docs) ps → AllByRecursion DontFall (map (λ (p : Posting). p.positions) ps)
falls_of recorded num_docs [] each = tt
falls_of recorded num_docs (p ∷ ps) each = (each.0.placed, falls_of recorded num_docs ps each.1)

lengths_of : (num_docs : ℕ) (ps : List Posting) → AllByRecursion (IsPosting true num_docs) ps → map length (map (λ (p : Posting). p.positions) ps) ≡ map (λ (p : Posting). p.count) ps
lengths_of num_docs [] each = refl
lengths_of num_docs (p ∷ ps) each = ap₂ (λ x xs. x ∷ xs) each.0.counted (lengths_of num_docs ps each.1)

both_empty : (num_docs : ℕ) (ps qs : List Posting) → length ps ≡ length qs → AllByRecursion (IsPosting false num_docs) ps → AllByRecursion (IsPosting false num_docs) qs → map (λ (p : Posting). p.positions) ps ≡ map (λ (p : Posting). p.positions) qs
both_empty num_docs [] [] long first second = refl
both_empty num_docs [] (q ∷ qs) long first second = absurd (omega (arith, long))
both_empty num_docs (p ∷ ps) [] long first second = absurd (omega (arith, long))
both_empty num_docs (p ∷ ps) (q ∷ qs) long first second = ap₂ (λ x xs. x ∷ xs) (no_numbers p.positions first.0.counted ∙ sym (no_numbers q.positions second.0.counted)) (both_empty num_docs ps qs (omega (arith, long)) first.1 second.1)

same_lists : (recorded : Bool) (num_docs : ℕ) (bytes : List ℕ) (ps qs : List Posting) → length bytes < 2 ^ 64 → length ps ≡ length qs → map (λ (p : Posting). p.count) ps ≡ map (λ (p : Posting). p.count) qs → AllByRecursion (IsPosting recorded num_docs) ps → AllByRecursion (IsPosting recorded num_docs) qs → HasPositions recorded (position_numbers (map (λ (p : Posting). p.positions) ps)) bytes → HasPositions recorded (position_numbers (map (λ (p : Posting). p.positions) qs)) bytes → map (λ (p : Posting). p.positions) ps ≡ map (λ (p : Posting). p.positions) qs
same_lists true num_docs bytes ps qs short long counts each_p each_q first second =
    let a = map (λ (p : Posting). p.positions) ps in
    let b = map (λ (p : Posting). p.positions) qs in
    same_documents a b (lengths_of num_docs ps each_p ∙ (counts ∙ sym (lengths_of num_docs qs each_q))) (falls_of true num_docs ps each_p) (falls_of true num_docs qs each_q) (one_list (position_numbers a) (position_numbers b) bytes short first second)
same_lists false num_docs bytes ps qs short long counts each_p each_q first second = both_empty num_docs ps qs long each_p each_q

-- ---- postings

same_posting : (p q : Posting) → p.doc ≡ q.doc → p.count ≡ q.count → p.positions ≡ q.positions → p ≡ q
same_posting p q doc count positions =
    ap (λ k. record { doc = k; count = p.count; positions = p.positions }) doc
    ∙ (ap (λ k. record { doc = q.doc; count = k; positions = p.positions }) count
    ∙ ap (λ k. record { doc = q.doc; count = q.count; positions = k }) positions)

same_all : (ps qs : List Posting) → map (λ (p : Posting). p.doc) ps ≡ map (λ (p : Posting). p.doc) qs → map (λ (p : Posting). p.count) ps ≡ map (λ (p : Posting). p.count) qs → map (λ (p : Posting). p.positions) ps ≡ map (λ (p : Posting). p.positions) qs → ps ≡ qs
same_all [] [] docs counts lists = refl
same_all [] (q ∷ qs) docs counts lists = cc
same_all (p ∷ ps) [] docs counts lists = cc
same_all (p ∷ ps) (q ∷ qs) docs counts lists =
    let doc : p.doc ≡ q.doc = cc in
    let count : p.count ≡ q.count = cc in
    let positions : p.positions ≡ q.positions = cc in
    let later_docs : map (λ (r : Posting). r.doc) ps ≡ map (λ (r : Posting). r.doc) qs = cc in
    let later_counts : map (λ (r : Posting). r.count) ps ≡ map (λ (r : Posting). r.count) qs = cc in
    let later_lists : map (λ (r : Posting). r.positions) ps ≡ map (λ (r : Posting). r.positions) qs = cc in
    ap₂ (λ r rs. r ∷ rs) (same_posting p q doc count positions) (same_all ps qs later_docs later_counts later_lists)

pub one_term : (option : IndexRecordOption) (num_docs : ℕ) (ids postings positions : List ℕ) (ps qs : List Posting) → AreDigits 256 postings → length postings < 2 ^ 64 → length positions < 2 ^ 64 → length ps ≡ length qs → IsTerm option num_docs ids (term_of ps postings positions) → IsTerm option num_docs ids (term_of qs postings positions) → ps ≡ qs
one_term option num_docs ids postings positions ps qs digits short short_positions long t u =
    let docs_p = map (λ (p : Posting). p.doc) ps in
    let docs_q = map (λ (p : Posting). p.doc) qs in
    let counts_p = map (λ (p : Posting). p.count) ps in
    let counts_q = map (λ (p : Posting). p.count) qs in
    let h : HasPostings (has_freq option) (has_positions option) (length ps) postings docs_p counts_p = record { option = option; ids = ids; postings = t.postings_are; many = length-map ps (λ (p : Posting). p.doc); counts_are = refl; positions_are = refl } in
    let g : HasPostings (has_freq option) (has_positions option) (length ps) postings docs_q counts_q = record { option = option; ids = ids; postings = u.postings_are; many = length-map qs (λ (p : Posting). p.doc) ∙ sym long; counts_are = refl; positions_are = refl } in
    let same = same_postings (has_freq option) (has_positions option) (length ps) postings docs_p counts_p docs_q counts_q short digits h g in
    let many : length counts_p ≡ length counts_q = length-map ps (λ (p : Posting). p.count) ∙ (long ∙ sym (length-map qs (λ (p : Posting). p.count))) in
    let counts = same_counts (has_freq option) (length ps) counts_p counts_q many t.postings_are.posted.alone u.postings_are.posted.alone same.counts_are in
    same_all ps qs same.docs_are counts (same_lists (has_positions option) num_docs positions ps qs short_positions long counts t.each_posting u.each_posting t.positions_are u.positions_are)
