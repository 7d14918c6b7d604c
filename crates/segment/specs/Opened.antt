-- What an opened segment stands for.
use Rattle.std.specs.Prelude.{List, ℕ}
use Rattle.definitions.specs.Analyzers.{Analyzer}
use Rattle.definitions.specs.Schema.{Schema}
use Rattle.definitions.specs.Values.{Document}
use Rattle.codes.specs.FieldNormReaders.{norms_in}
use Rattle.segment_reader.specs.Readers.{Reader}
use Rattle.layouts.specs.Stores.{Block}
use Rattle.segment_definitions.specs.Segments.{IsSegmentOf}
use Rattle.segment.specs.OpenedParts.{AreOpenedParts}
use Rattle.segment.specs.declared.segment.Segment.{Segment}

-- its bytes
abbrev pub bytes_of : Segment → List ℕ
bytes_of s = s.bytes

-- how many documents it has
abbrev pub num_docs_of : Segment → ℕ
num_docs_of s = s.num_docs

-- its terms
abbrev pub index_of : Segment → Reader
index_of s = s.inverted_index

-- the length ids of its documents, field by field
abbrev pub lengths_of : Segment → List (ℕ × List ℕ)
lengths_of s = norms_in s.num_docs s.length_fields.items s.norms

-- the blocks of its store
abbrev pub blocks_of : Segment → List Block
blocks_of s = s.store.blocks

-- it was opened under that schema: its parts are those of its bytes
abbrev pub IsOpened : Schema → Segment → Type 0
IsOpened schema s = AreOpenedParts schema s.bytes s.num_docs s.inverted_index s.length_fields.items s.norms s.store.blocks

-- it stands for these documents: its bytes are theirs
pub record StandsFor (schema : Schema) (analyze : Analyzer) (docs : List Document) (s : Segment) : Type 0 where
  pub opened : IsOpened schema s
  pub bytes_are : IsSegmentOf schema analyze docs s.bytes
