-- A segment has one number of documents and one list of sections, so that what its parts are is told by those that are found.
use Rattle.std.proofs.Common.{[], ◌<◌, ◌^◌, ◌≡◌, ◌∙◌, List, ap, flat_map, get_or, length, refl, subst, sum_by, sym, ℕ}
use Rattle.common.proofs.Many.{parts_are}
use Rattle.definitions.specs.KeptLengths.{length_fields}
use Rattle.definitions.specs.Schema.{Schema}
use Rattle.layouts.specs.FieldNorms.{IsNorms}
use Rattle.layouts.specs.InvertedIndexes.{AreSections, IndexedField}
use Rattle.layouts.specs.Stores.{AreBlocks, Block, store_bytes}
use Rattle.segment_definitions.specs.Keys.{AreKeyed}
use Rattle.segment.specs.OpenedParts.{AreOpenedParts}
use Rattle.segment_definitions.specs.Segments.{AreWritten, IsSegment, Sections, section_bytes}
use Rattle.layouts.specs.InvertedIndexes as reading
use Rattle.segment_reader.specs.Readers.{IsReader, Reader}
use Rattle.segment.proofs.SectionsBack.{all_short, five, listed, number_found, sections_found, sections_short}

abbrev of_listed : List (List ℕ) → Sections
of_listed xs = record { terms = get_or xs 0 []; postings = get_or xs 1 []; positions = get_or xs 2 []; norms = get_or xs 3 []; store = get_or xs 4 [] }

pub one_segment : (m n : ℕ) (s t : Sections) (bytes : List ℕ) → AreWritten m s bytes → AreWritten n t bytes → (m ≡ n) × (s ≡ t)
one_segment m n s t bytes a b =
    let same = parts_are (m, flat_map section_bytes (listed s)) n (flat_map section_bytes (listed t)) (sym (number_found m s bytes a) ∙ number_found n t bytes b) in
    let lists = parts_are (listed s, []) (listed t) [] (sym (sections_found m s bytes a) ∙ ap five same.1 ∙ sections_found n t bytes b) in
    (same.0, ap of_listed lists.0)

-- the sections of terms, of postings and of positions
abbrev pub terms_of : Sections → reading.Sections
terms_of s = record { terms = s.terms; postings = s.postings; positions = s.positions }

-- the parts of a segment, by its sections
pub record AreParts (schema : Schema) (num_docs : ℕ) (s : Sections) : Type 0 where
  pub norms : List (ℕ × List ℕ)
  pub fields : List IndexedField
  pub blocks : List Block
  pub norms_are : IsNorms (length_fields schema) num_docs s.norms norms
  pub terms_are : AreSections schema num_docs norms fields s.terms s.postings s.positions
  pub keyed : AreKeyed schema fields
  pub store_is : s.store ≡ store_bytes blocks
  pub blocks_are : AreBlocks blocks
  pub counted : sum_by (λ (b : Block). b.count) blocks ≡ num_docs

pub parts_told : (schema : Schema) (m n : ℕ) (s : Sections) (bytes : List ℕ) → AreWritten m s bytes → IsSegment schema n bytes → AreParts schema m s
parts_told schema m n s bytes a is =
    let one = one_segment m n s is.sections bytes a is.written in
    let theirs : AreParts schema n is.sections = record { norms = is.norms; fields = is.fields; blocks = is.blocks; norms_are = is.norms_are; terms_are = is.terms_are; keyed = is.keyed; store_is = is.store_is; blocks_are = is.blocks_are; counted = is.counted } in
    subst (λ (t : Sections). AreParts schema m t) (sym one.1) (subst (λ k. AreParts schema k is.sections) (sym one.0) theirs)

-- the section of lengths by other names of the fields and of the bytes
pub norms_over : (schema : Schema) (num_docs : ℕ) (fields bytes others : List ℕ) (norms : List (ℕ × List ℕ)) → fields ≡ length_fields schema → others ≡ bytes → IsNorms (length_fields schema) num_docs bytes norms → IsNorms fields num_docs others norms
norms_over schema num_docs fields bytes others norms named same is = subst (λ fs. IsNorms fs num_docs others norms) (sym named) (subst (λ bs. IsNorms (length_fields schema) num_docs bs norms) (sym same) is)

pub store_short : (num_docs : ℕ) (s : Sections) (bytes : List ℕ) → AreWritten num_docs s bytes → length s.store < 2 ^ 64
store_short num_docs s bytes are = (all_short (listed s) (sections_short num_docs s bytes are)).1.1.1.1.0

-- the parts that were read of its sections are those of an opened segment
pub opened_read : (schema : Schema) (n : ℕ) (s : Sections) (bytes : List ℕ) (r : Reader) (kept : List ℕ) (blocks : List Block) (norms lent : List (ℕ × List ℕ)) → AreWritten n s bytes → kept ≡ length_fields schema → IsNorms (length_fields schema) n s.norms norms → lent ≡ norms → r.sections ≡ terms_of s
    → ((fields : List IndexedField) × IsReader schema n lent fields r × AreKeyed schema fields) → ((others : List IndexedField) → AreSections schema n lent others s.terms s.postings s.positions → IsReader schema n lent others r)
    → AreBlocks blocks × (s.store ≡ store_bytes blocks) → sum_by (λ (b : Block). b.count) blocks ≡ n → AreOpenedParts schema bytes n r kept s.norms blocks
opened_read schema n s bytes r kept blocks norms lent written named are same sections exact reads stored counted =
    let own : IsReader schema n norms exact.0 r = subst (λ (ns : List (ℕ × List ℕ)). IsReader schema n ns exact.0 r) same exact.1 in
    record {
      sections = s;
      norms = norms;
      fields = exact.0;
      written = written;
      fields_are = named;
      lengths_are = refl;
      norms_are = are;
      terms_are = subst (λ (t : reading.Sections). AreSections schema n norms exact.0 t.terms t.postings t.positions) sections own.sections;
      keyed = exact.2;
      reads = λ others is. subst (λ (ns : List (ℕ × List ℕ)). IsReader schema n ns others r) same (reads others (subst (λ (ns : List (ℕ × List ℕ)). AreSections schema n ns others s.terms s.postings s.positions) (sym same) is));
      blocks_are = stored.0;
      store_is = stored.1;
      counted = counted;
    }
