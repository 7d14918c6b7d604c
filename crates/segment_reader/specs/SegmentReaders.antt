-- What a reader of a segment has, and which documents it stands for.
use Rattle.std.specs.Prelude.{◌≡◌, Bool, List, Option, length, option_map, ℕ}
use Rattle.std.specs.Option.{option_map_or}
use Rattle.common.specs.BitSets.{count_set}
use Rattle.definitions.specs.Analyzers.{Analyzer}
use Rattle.definitions.specs.KeptLengths.{norms_of}
use Rattle.definitions.specs.Schema.{Schema}
use Rattle.definitions.specs.Values.{Document}
use Rattle.segment_reader.specs.Readers.{IsReader, Reader}
use Rattle.layouts.specs.InvertedIndexes.{AreIndexed, IndexedField}
use Rattle.segment_reader.specs.declared.segment_reader.SegmentReader.{SegmentReader}

-- its terms
abbrev pub index_of : SegmentReader → Reader
index_of r = r.inverted_index.now

-- the length ids of its documents, field by field
abbrev pub lengths_of : SegmentReader → List (ℕ × List ℕ)
lengths_of r = r.fieldnorms_readers

-- how many documents there are
abbrev pub max_doc_of : SegmentReader → ℕ
max_doc_of r = r.max_doc

-- a flag for each document, if some may be dead
abbrev pub alive_in : SegmentReader → Option (List Bool)
alive_in r = option_map (λ flags. flags.now) r.alive_bitset

-- how many are alive
abbrev pub num_alive : SegmentReader → ℕ
num_alive r = option_map_or count_set (alive_in r) r.max_doc

-- it stands for these documents: its terms are those that they hold, and its lengths are theirs
pub record StandsFor (schema : Schema) (analyze : Analyzer) (docs : List Document) (r : SegmentReader) : Type 0 where
  pub many : length docs ≡ max_doc_of r
  pub lengths_are : lengths_of r ≡ norms_of schema analyze docs
  pub fields : List IndexedField
  pub reads : IsReader schema (length docs) (norms_of schema analyze docs) fields (index_of r)
  pub indexed : AreIndexed schema analyze docs fields
