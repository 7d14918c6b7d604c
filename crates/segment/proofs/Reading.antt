-- A segment that stands for documents gives a reader that stands for them.
use Rattle.std.proofs.Common.{List, length, refl, subst, sym, ◌∙◌, ◌≡◌, ℕ}
use Rattle.definitions.specs.Analyzers.{Analyzer}
use Rattle.definitions.specs.KeptLengths.{length_fields, norms_of}
use Rattle.definitions.specs.Postings.{postings}
use Rattle.definitions.specs.Schema.{Schema}
use Rattle.definitions.specs.Values.{Document}
use Rattle.codes.proofs.FieldNormSections.{norms_lent}
use Rattle.segment_reader.proofs.GivenPostings.{given_held}
use Rattle.segment_reader.specs.Readers.{Contents, IsReader, postings_held}
use Rattle.layouts.specs.FieldNorms.{IsNorms}
use Rattle.layouts.specs.InvertedIndexes.{AreSections}
use Rattle.segment_definitions.specs.Segments.{Sections}
use Rattle.segment_reader.specs.SegmentReaders as readers
use Rattle.segment_reader.specs.declared.segment_reader.SegmentReader.{SegmentReader}
use Rattle.segment.proofs.Opening.{norms_over, one_segment}
use Rattle.segment.specs.Opened.{IsOpened, StandsFor, lengths_of}
use Rattle.segment.specs.declared.segment.Segment.{Segment}

-- the lengths that were found when it was opened, by other names of the fields and of their bytes
pub opened_norms : (schema : Schema) (s : Segment) (o : IsOpened schema s) (fields bytes : List ℕ) → fields ≡ s.length_fields.items → bytes ≡ s.norms → IsNorms fields s.num_docs bytes o.norms
opened_norms schema s o fields bytes named same = norms_over schema s.num_docs fields o.sections.norms bytes o.norms (named ∙ o.fields_are) (same ∙ o.lengths_are) o.norms_are

-- its lengths are those that were found
pub opened_lengths : (schema : Schema) (s : Segment) (o : IsOpened schema s) → lengths_of s ≡ o.norms
opened_lengths schema s o = norms_lent s.num_docs s.length_fields.items s.norms o.norms (opened_norms schema s o s.length_fields.items s.norms refl refl)

module _ (schema : Schema) (analyze : Analyzer) (docs : List Document) (s : Segment) (stands : StandsFor schema analyze docs s) where
  one : (s.num_docs ≡ length docs) × (stands.opened.sections ≡ stands.bytes_are.sections)
  one = one_segment s.num_docs (length docs) stands.opened.sections stands.bytes_are.sections s.bytes stands.opened.written stands.bytes_are.written

  -- the documents' lengths are in its section
  pub documents_norms : (fields bytes : List ℕ) → fields ≡ s.length_fields.items → bytes ≡ s.norms → IsNorms fields s.num_docs bytes (norms_of schema analyze docs)
  documents_norms fields bytes named same =
      let many = subst (λ n. IsNorms (length_fields schema) n stands.bytes_are.sections.norms (norms_of schema analyze docs)) (sym one.0) stands.bytes_are.norms_are in
      let here = subst (λ (t : Sections). IsNorms (length_fields schema) s.num_docs t.norms (norms_of schema analyze docs)) (sym one.1) many in
      norms_over schema s.num_docs fields stands.opened.sections.norms bytes (norms_of schema analyze docs) (named ∙ stands.opened.fields_are) (same ∙ stands.opened.lengths_are) here

  -- its lengths are the documents'
  pub documents_lengths : lengths_of s ≡ norms_of schema analyze docs
  documents_lengths = norms_lent s.num_docs s.length_fields.items s.norms (norms_of schema analyze docs) (documents_norms s.length_fields.items s.norms refl refl)

  -- and so are those that were found when it was opened
  one_norms : stands.opened.norms ≡ norms_of schema analyze docs
  one_norms = sym (opened_lengths schema s stands.opened) ∙ documents_lengths

  -- the documents' terms are in its sections
  documents_terms : stands.opened.norms ≡ norms_of schema analyze docs → AreSections schema s.num_docs stands.opened.norms stands.bytes_are.fields stands.opened.sections.terms stands.opened.sections.postings stands.opened.sections.positions
  documents_terms norms_are =
      let many = subst (λ n. AreSections schema n (norms_of schema analyze docs) stands.bytes_are.fields stands.bytes_are.sections.terms stands.bytes_are.sections.postings stands.bytes_are.sections.positions) (sym one.0) stands.bytes_are.terms_are in
      let here = subst (λ (t : Sections). AreSections schema s.num_docs (norms_of schema analyze docs) stands.bytes_are.fields t.terms t.postings t.positions) (sym one.1) many in
      subst (λ ns. AreSections schema s.num_docs ns stands.bytes_are.fields stands.opened.sections.terms stands.opened.sections.postings stands.opened.sections.positions) (sym norms_are) here

  pub reader_stands : (r : SegmentReader) (lengths : List (ℕ × List ℕ)) → readers.max_doc_of r ≡ s.num_docs → readers.index_of r ≡ s.inverted_index → readers.lengths_of r ≡ lengths → lengths ≡ stands.opened.norms → lengths ≡ norms_of schema analyze docs → readers.StandsFor schema analyze docs r
  reader_stands r lengths many index lent found documents =
      let norms_are = sym found ∙ documents in
      let own = stands.opened.reads stands.bytes_are.fields (documents_terms norms_are) in
      let counted = subst (λ n. IsReader schema n stands.opened.norms stands.bytes_are.fields s.inverted_index) one.0 own in
      let measured = subst (λ ns. IsReader schema (length docs) ns stands.bytes_are.fields s.inverted_index) norms_are counted in
      record {
        many = sym (many ∙ one.0);
        lengths_are = lent ∙ documents;
        fields = stands.bytes_are.fields;
        reads = subst (IsReader schema (length docs) (norms_of schema analyze docs) stands.bytes_are.fields) (sym index) measured;
        indexed = stands.bytes_are.indexed;
      }

  pub documents_read : IsReader schema s.num_docs stands.opened.norms stands.bytes_are.fields s.inverted_index
  documents_read = stands.opened.reads stands.bytes_are.fields (documents_terms one_norms)

  -- its terms are what documents hold
  abbrev pub documents_contents : Contents s.inverted_index
  documents_contents = record {
    schema = schema;
    num_docs = s.num_docs;
    norms = stands.opened.norms;
    fields = stands.bytes_are.fields;
    is_reader = documents_read;
  }

  pub documents_held : (t : List ℕ) → postings_held schema stands.bytes_are.fields t ≡ postings schema analyze t docs
  documents_held t = given_held (λ u. postings schema analyze u docs) schema stands.bytes_are.fields t stands.bytes_are.indexed

  pub documents_many : s.num_docs ≡ length docs
  documents_many = one.0

-- the terms that were found when it was opened
abbrev pub opened_contents : (schema : Schema) (s : Segment) → IsOpened schema s → Contents s.inverted_index
opened_contents schema s o = record { schema = schema; num_docs = s.num_docs; norms = o.norms; fields = o.fields; is_reader = o.reads o.fields o.terms_are }
