-- Bytes that are put behind others.
use Rattle.std.proofs.Common.{[], List, ap, append_assoc, arith, drop, length, length-drop, take, ◌++◌, ◌<◌, ◌≡◌, ◌≤◌, ◌∙◌, ◌^◌, ℕ}
use Rattle.std.proofs.Math.Seq.{drop-append_seam, take-append_seam}
use Rattle.definitions.specs.NumberCodes.{u32_bytes, u64_bytes}
use Rattle.layouts.specs.Stores.{max_docs}
use Rattle.segment_definitions.specs.Segments.{AreWritten, Sections, section_bytes, segment_bytes}

-- what is appended to bytes behind others stands behind them too
one_more : (front behind part bytes more : List ℕ) → bytes ≡ front ++ behind → more ≡ bytes ++ part → more ≡ front ++ (behind ++ part)
one_more front behind part bytes more stands put = put ∙ ap (λ bs. bs ++ part) stands ∙ append_assoc front behind part

-- a number, sections, and the length of the last, which are put one after another, are a segment behind what stood before
pub sections_behind : (n : ℕ) (s : Sections) (front first second third fourth fifth sixth whole : List ℕ) → first ≡ front ++ u32_bytes n
    → second ≡ first ++ section_bytes s.terms → third ≡ second ++ section_bytes s.postings → fourth ≡ third ++ section_bytes s.positions → fifth ≡ fourth ++ section_bytes s.norms
    → sixth ≡ fifth ++ u64_bytes (length s.store) → whole ≡ sixth ++ s.store → whole ≡ front ++ segment_bytes n s
sections_behind n s front first second third fourth fifth sixth whole number terms postings positions norms count all =
    let one = u32_bytes n in
    let two = one ++ section_bytes s.terms in
    let three = two ++ section_bytes s.postings in
    let four = three ++ section_bytes s.positions in
    let five = four ++ section_bytes s.norms in
    let last = all ∙ ap (λ bs. bs ++ s.store) count ∙ append_assoc fifth (u64_bytes (length s.store)) s.store in
    let to_second = one_more front one (section_bytes s.terms) first second number terms in
    let to_third = one_more front two (section_bytes s.postings) second third to_second postings in
    let to_fourth = one_more front three (section_bytes s.positions) third fourth to_third positions in
    let to_fifth = one_more front four (section_bytes s.norms) fourth fifth to_fourth norms in
    one_more front five (section_bytes s.store) fifth whole to_fifth last

-- what stood before them stands there still
pub front_stands : (front behind bytes : List ℕ) → bytes ≡ front ++ behind → take (length front) bytes ≡ front
front_stands front behind bytes whole = ap (λ bs. take (length front) bs) whole ∙ take-append_seam front behind

-- sections that are put behind others are a segment there
pub written_behind : (n : ℕ) (s : Sections) (front bytes : List ℕ) → 0 < n → n ≤ max_docs → length bytes < 2 ^ 64 → bytes ≡ front ++ segment_bytes n s → AreWritten n s (drop (length front) bytes)
written_behind n s front bytes some few short whole =
    let left = length-drop (length front) bytes in
    record {
      has_documents = some;
      num_docs_fit = few;
      short = omega (arith, short, left);
      bytes_are = ap (λ bs. drop (length front) bs) whole ∙ drop-append_seam front (segment_bytes n s);
    }

-- behind nothing stands the whole
pub behind_none : (front bytes : List ℕ) → front ≡ [] → drop (length front) bytes ≡ bytes
behind_none front bytes none = ap (λ fs. drop (length fs) bytes) none
