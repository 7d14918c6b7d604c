-- The bounds of a term's blocks are those of the lengths that a segment keeps.
use Rattle.std.proofs.Common.{[], List, arith, drop, map, refl, slice_index, subst, sym, take, ◌≡◌, ◌∷◌, ℕ}
use Rattle.std.proofs.Math.Logic.{∥∥₁_elim}
use Rattle.definitions.specs.Analyzers.{Analyzer}
use Rattle.definitions.specs.Schema.{Schema}
use Rattle.definitions.specs.Values.{Document}
use Rattle.layouts.specs.InvertedIndexes.{field_ids}
use Rattle.layouts.specs.SkipEntries.{SkipEntry}
use Rattle.layouts.specs.TermPostings.{bound_in, id_of}
use Rattle.segment_postings.specs.BoundedBlocks.{AreBounded}
use Rattle.segment_postings.specs.BoundedBlockLaws.{AreBounded-prop}
use Rattle.segment_reader.specs.Readers.{AreOfDocuments, Contents, Reader, full_bounds}
use Rattle.segment_reader.specs.SegmentReaders.{StandsFor, index_of, lengths_of, max_doc_of}
use Rattle.segment_reader.proofs.PartsTogether.{known_together}
use Rattle.segment_reader.specs.Together.{AreTogether}
use Rattle.segment_reader.specs.declared.segment_reader.SegmentReader.{SegmentReader}
use Rattle.leaf_weights.proofs.TermsFound.{contents_of}

-- ids that are read alike have the same bounds
same_bounded : (ids others : List ℕ) (es : List SkipEntry) (docs counts : List ℕ) → ((doc : ℕ) → id_of others doc ≡ id_of ids doc) → AreBounded ids es docs counts → AreBounded others es docs counts
same_bounded ids others [] docs counts same all = tt
same_bounded ids others (e ∷ es) docs counts same all = (
  record {
    least = λ small i inside. (let le = all.0.least small i inside in let alike = same (slice_index (take 128 docs) i) in omega (arith, le, alike));
    greatest = all.0.greatest;
  },
  same_bounded ids others es (drop 128 docs) (drop 128 counts) same all.1,
)

-- what is read of a field's postings is bounded by the lengths that the segment has of it
pub bounds_found : (r : SegmentReader) (index : Reader) (field number : ℕ) (ids : List ℕ) (es : List SkipEntry) (docs counts : List ℕ) → index ≡ index_of r → field ≡ number → ((doc : ℕ) → id_of ids doc ≡ id_of (field_ids (lengths_of r) field) doc) → ((contents : Contents index) → AreBounded (field_ids contents.norms number) es docs counts) → AreBounded ids es docs counts
bounds_found r index field number ids es docs counts lent same kept all =
    ∥∥₁_elim (known_together r) (AreBounded-prop ids es docs counts) (λ (together : AreTogether (max_doc_of r) (lengths_of r) (index_of r)).
    (let here : Contents (index_of r) = record { schema = together.schema; num_docs = max_doc_of r; norms = lengths_of r; fields = together.fields; is_reader = together.reads } in
    let lent_here = subst (λ i. ((contents : Contents i) → AreBounded (field_ids contents.norms number) es docs counts)) lent all in
    same_bounded (field_ids (lengths_of r) field) ids es docs counts kept (subst (λ n. AreBounded (field_ids (lengths_of r) n) es docs counts) (sym same) (lent_here here))))

-- where the segment stands for documents, they are the bounds of the documents' full blocks
pub full_bounds_found : (schema : Schema) (analyze : Analyzer) (docs : List Document) (r : SegmentReader) (stands : StandsFor schema analyze docs r) (t : List ℕ) (index : Reader) (es : List SkipEntry) → index ≡ index_of r → ((contents : Contents index) (a : Analyzer) (ds : List Document) → AreOfDocuments index contents a ds → map bound_in es ≡ full_bounds contents.schema a t ds) → map bound_in es ≡ full_bounds schema analyze t docs
full_bounds_found schema analyze docs r stands t index es lent bounds =
    let here = subst (λ i. ((contents : Contents i) (a : Analyzer) (ds : List Document) → AreOfDocuments i contents a ds → map bound_in es ≡ full_bounds contents.schema a t ds)) lent bounds in
    here (contents_of schema analyze docs r stands) analyze docs (record { norms_are = refl; indexed = stands.indexed })
