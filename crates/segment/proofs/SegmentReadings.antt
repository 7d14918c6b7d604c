-- A segment has one reading.
use Rattle.std.proofs.Common.{[], Bool, List, ap, arith, cond, false, filter, length, map, subst, sym, true, ◌++◌, ◌+◌, ◌<◌, ◌^◌, ◌∙◌, ◌∷◌, ◌≡◌, ◌≤◌, ℕ}
use Rattle.std.proofs.lemmas.List.{length-append}
use Rattle.std.specs.List.{AllByRecursion, enumerate_from}
use Rattle.codes.proofs.SectionLaws.{one_section}
use Rattle.common.proofs.WordBytes.{front_bytes as bytes_left, back_bytes as bytes_right}
use Rattle.definitions.specs.Analyzers.{Analyzer}
use Rattle.definitions.specs.KeptLengths.{length_fields, norms_of}
use Rattle.definitions.specs.NumberCodes.{AreBytes, u32_bytes, u64_bytes}
use Rattle.definitions.specs.Postings.{postings}
use Rattle.definitions.specs.Schema.{Entry, Schema, keeps_length, max_fields}
use Rattle.definitions.specs.Values.{Document}
use Rattle.segment_reader.proofs.GivenPostings.{given_held}
use Rattle.segment_reader.proofs.KindsKnown.{fields_small}
use Rattle.segment_reader.proofs.OneReading.{same_fields}
use Rattle.segment_reader.proofs.SectionsThere.{sections_there}
use Rattle.layouts.specs.InvertedIndexes as indexes
use Rattle.segment_reader.specs.Readers.{postings_held}
use Rattle.layouts.specs.FieldNorms.{IsNorms}
use Rattle.layouts.specs.InvertedIndexes.{AreSections, field_terms, indexed_fields}
use Rattle.segment.proofs.Opening.{one_segment}
use Rattle.segment_definitions.specs.Segments.{IsSegmentOf, Sections, section_bytes, segment_bytes}
use Rattle.segment_definitions.specs.Slots.{slots}
use Rattle.segment.proofs.BlockReadings.{store_once}
use Rattle.segment.proofs.TermReadings.{fields_once}
use Rattle.layouts.specs.Stores.{IsStore}

-- ---- sections of a segment

pub record AreShort (s : Sections) : Type 0 where
  pub terms : length s.terms < 2 ^ 63
  pub postings : length s.postings < 2 ^ 63
  pub positions : length s.positions < 2 ^ 63
  pub store : length s.store < 2 ^ 63

section_length : (xs : List ℕ) → length xs ≤ length (section_bytes xs)
section_length xs = let all = length-append (u64_bytes (length xs)) xs in omega (arith, all)

are_short : (n : ℕ) (s : Sections) → length (segment_bytes n s) < 2 ^ 63 → AreShort s
are_short n s short =
    let one = u32_bytes n ++ section_bytes s.terms in
    let two = one ++ section_bytes s.postings in
    let three = two ++ section_bytes s.positions in
    let four = three ++ section_bytes s.norms in
    let a = length-append (u32_bytes n) (section_bytes s.terms) in
    let b = length-append one (section_bytes s.postings) in
    let c = length-append two (section_bytes s.positions) in
    let d = length-append three (section_bytes s.norms) in
    let e = length-append four (section_bytes s.store) in
    let p = section_length s.terms in
    let q = section_length s.postings in
    let r = section_length s.positions in
    let t = section_length s.store in
    record { terms = omega (arith, short, a, b, c, d, e, p); postings = omega (arith, short, b, c, d, e, q); positions = omega (arith, short, c, d, e, r); store = omega (arith, short, e, t) }

postings_bytes : (n : ℕ) (s : Sections) → AreBytes (segment_bytes n s) → AreBytes s.postings
postings_bytes n s bytes =
    let one = u32_bytes n ++ section_bytes s.terms in
    let two = one ++ section_bytes s.postings in
    let three = two ++ section_bytes s.positions in
    let four = three ++ section_bytes s.norms in
    bytes_right (u64_bytes (length s.postings)) s.postings (bytes_right one (section_bytes s.postings) (bytes_left two (section_bytes s.positions) (bytes_left three (section_bytes s.norms) (bytes_left four (section_bytes s.store) bytes))))

-- ---- fields that keep lengths

small_from : (n : ℕ) (es : List Entry) → n + length es ≤ max_fields → AllByRecursion (λ k. k < 2 ^ 32) (map (λ (p : ℕ × Entry). p.0) (filter (λ (p : ℕ × Entry). keeps_length p.1) (enumerate_from n es)))
small_from n [] few = tt
small_from n (e ∷ es) few = go (keeps_length e) (small_from (n + 1) es (omega (arith, few)))
  where
    go : (b : Bool) → AllByRecursion (λ k. k < 2 ^ 32) (map (λ (p : ℕ × Entry). p.0) (filter (λ (p : ℕ × Entry). keeps_length p.1) (enumerate_from (n + 1) es))) → AllByRecursion (λ k. k < 2 ^ 32) (map (λ (p : ℕ × Entry). p.0) (cond b ((n, e) ∷ filter (λ (p : ℕ × Entry). keeps_length p.1) (enumerate_from (n + 1) es)) (filter (λ (p : ℕ × Entry). keeps_length p.1) (enumerate_from (n + 1) es))))
    go true rest = (omega (arith, few), rest)
    go false rest = rest

-- ---- one reading

module _ (schema : Schema) (analyze other : Analyzer) (docs others : List Document) (bytes : List ℕ) (are : AreBytes bytes) (short : length bytes < 2 ^ 63) (fields_few : length schema < 2 ^ 32) (a : IsSegmentOf schema analyze docs bytes) (b : IsSegmentOf schema other others bytes) where
  same : (length docs ≡ length others) × (a.sections ≡ b.sections)
  same = one_segment (length docs) (length others) a.sections b.sections bytes a.written b.written

  shorts : AreShort a.sections
  shorts = are_short (length docs) a.sections (let whole = ap length a.written.bytes_are in omega (arith, short, whole))

  norms_there : IsNorms (length_fields schema) (length docs) a.sections.norms (norms_of schema other others)
  norms_there = subst (λ (s : Sections). IsNorms (length_fields schema) (length docs) s.norms (norms_of schema other others)) (sym same.1) (subst (λ n. IsNorms (length_fields schema) n b.sections.norms (norms_of schema other others)) (sym same.0) b.norms_are)

  pub norms_same : norms_of schema analyze docs ≡ norms_of schema other others
  norms_same = one_section (length_fields schema) a.sections.norms (length docs) (norms_of schema analyze docs) (norms_of schema other others) (small_from 0 schema (omega (arith, fields_few))) a.norms_are norms_there

  terms_there : AreSections schema (length docs) (norms_of schema analyze docs) b.fields a.sections.terms a.sections.postings a.sections.positions
  terms_there = subst (λ ns. AreSections schema (length docs) ns b.fields a.sections.terms a.sections.postings a.sections.positions) (sym norms_same)
      (subst (λ (s : Sections). AreSections schema (length docs) (norms_of schema other others) b.fields s.terms s.postings s.positions) (sym same.1)
      (subst (λ n. AreSections schema n (norms_of schema other others) b.fields b.sections.terms b.sections.postings b.sections.positions) (sym same.0) b.terms_are))

  fields_same : a.fields ≡ b.fields
  fields_same =
      let s : indexes.Sections = record { terms = a.sections.terms; postings = a.sections.postings; positions = a.sections.positions } in
      let docs_few = a.written.num_docs_fit in
      let norms = norms_of schema analyze docs in
      let told = same_fields a.sections.terms (length a.sections.postings) (length a.sections.positions) (indexed_fields schema) (map field_terms a.fields) (map field_terms b.fields) shorts.terms (fields_small schema (omega (arith, fields_few)))
      (sections_there schema (length docs) norms a.fields s shorts.terms shorts.postings shorts.positions (omega (arith, docs_few)) a.terms_are)
      (sections_there schema (length docs) norms b.fields s shorts.terms shorts.postings shorts.positions (omega (arith, docs_few)) terms_there) in
      let small = shorts.postings in
      let small_positions = shorts.positions in
      let size = ap length a.terms_are.postings_are in
      let size_positions = ap length a.terms_are.positions_are in
      fields_once schema (length docs) norms a.fields b.fields told (sym a.terms_are.postings_are ∙ terms_there.postings_are) (sym a.terms_are.positions_are ∙ terms_there.positions_are)
      (subst AreBytes a.terms_are.postings_are (postings_bytes (length docs) a.sections (subst AreBytes a.written.bytes_are are)))
      (omega (arith, small, size)) (omega (arith, small_positions, size_positions)) a.terms_are.each_field terms_there.each_field

  pub postings_same : (t : List ℕ) → postings schema analyze t docs ≡ postings schema other t others
  postings_same t = sym (given_held (λ u. postings schema analyze u docs) schema a.fields t a.indexed) ∙ (ap (λ fs. postings_held schema fs t) fields_same ∙ given_held (λ u. postings schema other u others) schema b.fields t b.indexed)

  pub slots_same : slots schema docs ≡ slots schema others
  slots_same = store_once (slots schema docs) (slots schema others) a.sections.store (let l = shorts.store in omega (arith, l)) a.store_is (subst (λ (s : Sections). IsStore (slots schema others) s.store) (sym same.1) b.store_is)

  pub one_reading : (length docs ≡ length others) × (norms_of schema analyze docs ≡ norms_of schema other others) × ((t : List ℕ) → postings schema analyze t docs ≡ postings schema other t others) × (slots schema docs ≡ slots schema others)
  one_reading = (same.0, norms_same, postings_same, slots_same)
