-- What is told of the sections of bytes that are known to be a segment.
use Rattle.std.proofs.Common.{[], List, arith, flat_map, length, refl, subst, sum_by, sym, ◌++◌, ◌<◌, ◌≡◌, ◌≤◌, ◌∙◌, ◌∷◌, ◌^◌, ℕ}
use Rattle.std.proofs.Math.Logic.{∥∥₁_elim, ∥∥₁_map}
use Rattle.std.proofs.Props.{props}
use Rattle.definitions.specs.KeptLengths as documents
use Rattle.definitions.specs.KeptLengths.{length_fields}
use Rattle.definitions.specs.NumberCodes.{AreBytes, u32_bytes, u64_bytes}
use Rattle.definitions.specs.Postings.{terminated}
use Rattle.definitions.specs.Schema.{Schema}
use Rattle.codes.proofs.FieldNormSections.{norms_lent}
use Rattle.codes.specs.FieldNormReaders.{norms_in}
use Rattle.common.proofs.WordBytes.{back_bytes as bytes_after, front_bytes as bytes_before}
use Rattle.layouts.specs.InvertedIndexes as reading
use Rattle.segment_reader.specs.Readers.{AreKnown, IsReader, Reader}
use Rattle.layouts.specs.FieldNorms.{IsNorms}
use Rattle.layouts.specs.InvertedIndexes.{AreSections, IndexedField}
use Rattle.layouts.specs.Stores.{AreBlocks, Block, store_bytes}
use Rattle.segment_definitions.specs.Segments.{AreWritten, IsSegment, Sections, section_bytes}
use Rattle.segment.proofs.OneReading.{AreKept, HasFields, fields_found, norms_found}
use Rattle.segment.proofs.Opening.{AreParts, parts_told, terms_of}
use Rattle.segment.proofs.SectionsBack.{bytes_listed, listed}
use Rattle.segment.specs.OpenedParts.{AreOpenedParts}

-- the length ids of its section
abbrev pub norms_of : Schema → ℕ → Sections → List (ℕ × List ℕ)
norms_of schema n s = norms_in n (length_fields schema) s.norms

-- a reader of the sections is made, whatever their fields are
abbrev pub Makes : Schema → Reader → reading.Sections → Type 0
Makes schema r s = (n : ℕ) (norms : List (ℕ × List ℕ)) (fields : List IndexedField) → n ≤ terminated → AreSections schema n norms fields s.terms s.postings s.positions → IsReader schema n norms fields r

-- its parts are there
pub parts_known : (schema : Schema) (n : ℕ) (s : Sections) (bytes : List ℕ) → AreWritten n s bytes → ∥ ((m : ℕ) × IsSegment schema m bytes) ∥₁ → ∥ AreParts schema n s ∥₁
parts_known schema n s bytes written known = ∥∥₁_map known (λ is. parts_told schema n is.0 s bytes written is.1)

pub terms_known : (schema : Schema) (n : ℕ) (s : Sections) (bytes : List ℕ) → AreWritten n s bytes → ∥ AreParts schema n s ∥₁ → ∥ AreKnown schema (terms_of s) ∥₁
terms_known schema n s bytes written known = (let few = written.num_docs_fit in ∥∥₁_map known (λ parts. record { num_docs = n; norms = parts.norms; fields = parts.fields; docs_few = omega (arith, few); sections_are = parts.terms_are }))

pub store_known : (schema : Schema) (n : ℕ) (s : Sections) → ∥ AreParts schema n s ∥₁ → ∥ ((blocks : List Block) × AreBlocks blocks × (s.store ≡ store_bytes blocks) × (sum_by (λ (b : Block). b.count) blocks ≡ n)) ∥₁
store_known schema n s known = ∥∥₁_map known (λ parts. (parts.blocks, parts.blocks_are, parts.store_is, parts.counted))

-- the bytes of its postings are bytes
pub postings_are_bytes : (n : ℕ) (s : Sections) (bytes : List ℕ) → AreWritten n s bytes → AreBytes bytes → AreBytes s.postings
postings_are_bytes n s bytes written are =
    let rest = flat_map section_bytes (s.positions ∷ s.norms ∷ s.store ∷ []) in
    let all : AreBytes (u32_bytes n ++ flat_map section_bytes (listed s)) = subst AreBytes (written.bytes_are ∙ bytes_listed n s) are in
    let behind : AreBytes (section_bytes s.postings ++ rest) = bytes_after (section_bytes s.terms) (section_bytes s.postings ++ rest) (bytes_after (u32_bytes n) (flat_map section_bytes (listed s)) all) in
    bytes_after (u64_bytes (length s.postings)) s.postings (bytes_before (section_bytes s.postings) rest behind)

kept_of : (schema : Schema) (n : ℕ) (s : Sections) (r : Reader) → n ≤ terminated → AreBytes s.postings → r.sections ≡ terms_of s → Makes schema r (terms_of s) → ∥ AreParts schema n s ∥₁ → AreKept schema (terms_of s)
kept_of schema n s r few bytes same makes known = ∥∥₁_elim known (hlevel props) (λ parts.
    (let is = makes n parts.norms parts.fields few parts.terms_are in
    record {
      few = is.schema_fits;
      terms_short = subst (λ (t : reading.Sections). length t.terms < 2 ^ 63) same is.terms_short;
      postings_short = subst (λ (t : reading.Sections). length t.postings < 2 ^ 63) same is.postings_short;
      positions_short = subst (λ (t : reading.Sections). length t.positions < 2 ^ 63) same is.positions_short;
      bytes = bytes;
    }))

-- its length ids
pub lengths_known : (schema : Schema) (n : ℕ) (s : Sections) → ∥ AreParts schema n s ∥₁ → IsNorms (length_fields schema) n s.norms (norms_of schema n s)
lengths_known schema n s known = norms_found schema n s.norms (∥∥₁_map known (λ parts. (parts.norms, parts.norms_are)))

-- its fields, of which a reader was made
pub fields_known : (schema : Schema) (n : ℕ) (s : Sections) (bytes : List ℕ) (r : Reader) → AreWritten n s bytes → AreBytes bytes → r.sections ≡ terms_of s → Makes schema r (terms_of s) → ∥ AreParts schema n s ∥₁ → HasFields schema n (norms_of schema n s) (terms_of s)
fields_known schema n s bytes r written are same makes known =
    let few = written.num_docs_fit in
    let kept = kept_of schema n s r (omega (arith, few)) (postings_are_bytes n s bytes written are) same makes known in
    fields_found schema n (norms_of schema n s) (terms_of s) kept (omega (arith, few)) (∥∥₁_map known (λ parts. (parts.fields, record { are = subst (λ norms. AreSections schema n norms parts.fields s.terms s.postings s.positions) (sym (norms_lent n (length_fields schema) s.norms parts.norms parts.norms_are)) parts.terms_are; keyed = parts.keyed })))

-- the parts that are made of its sections are those of an opened segment
pub opened_known : (schema : Schema) (n : ℕ) (s : Sections) (bytes : List ℕ) (r : Reader) (kept : List ℕ) (blocks : List Block) → AreWritten n s bytes → AreBytes bytes → r.sections ≡ terms_of s → Makes schema r (terms_of s) → ∥ AreParts schema n s ∥₁ → kept ≡ length_fields schema
    → AreBlocks blocks × (s.store ≡ store_bytes blocks) → sum_by (λ (b : Block). b.count) blocks ≡ n → AreOpenedParts schema bytes n r kept s.norms blocks
opened_known schema n s bytes r kept blocks written are same makes known named stored counted =
    let few = written.num_docs_fit in
    let found = fields_known schema n s bytes r written are same makes known in
    record {
      sections = s;
      norms = norms_of schema n s;
      fields = found.0;
      written = written;
      fields_are = named;
      lengths_are = refl;
      norms_are = lengths_known schema n s known;
      terms_are = found.1.are;
      keyed = found.1.keyed;
      reads = λ others is. makes n (norms_of schema n s) others (omega (arith, few)) is;
      blocks_are = stored.0;
      store_is = stored.1;
      counted = counted;
    }

-- ---- documents
