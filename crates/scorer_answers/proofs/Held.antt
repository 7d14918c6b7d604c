-- What the index of a segment holds of a term.
use Rattle.std.proofs.Common.{List, length, subst, ◌≡◌, ℕ}
use Rattle.definitions.specs.Analyzers.{Analyzer}
use Rattle.definitions.specs.KeptLengths.{norms_of}
use Rattle.definitions.specs.Postings.{Posting, postings}
use Rattle.definitions.specs.Schema.{Schema}
use Rattle.definitions.specs.Values.{Document}
use Rattle.segment_reader.proofs.GivenPostings.{given_held}
use Rattle.segment_reader.specs.Readers.{Contents, Reader, postings_held}
use Rattle.segment_reader.specs.SegmentReaders.{StandsFor, index_of}
use Rattle.segment_reader.specs.declared.segment_reader.SegmentReader.{SegmentReader}

-- what is said of the postings that are held is said of those of the documents
pub of_documents : (P : List Posting → Type 0) (schema : Schema) (analyze : Analyzer) (docs : List Document) (r : SegmentReader) (index : Reader) (t : List ℕ)
    → StandsFor schema analyze docs r → index ≡ index_of r → ((contents : Contents index) → P (postings_held contents.schema contents.fields t)) → P (postings schema analyze t docs)
of_documents P schema analyze docs r index t stands lent said =
    let here : Contents (index_of r) = record { schema = schema; num_docs = length docs; norms = norms_of schema analyze docs; fields = stands.fields; is_reader = stands.reads } in
    let said_here = subst (λ i. ((contents : Contents i) → P (postings_held contents.schema contents.fields t))) lent said in
    subst P (given_held (λ u. postings schema analyze u docs) schema stands.fields t stands.indexed) (said_here here)
