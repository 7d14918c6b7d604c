-- What an indexer of documents shows.
use Rattle.std.specs.Prelude.{◌≡◌, List}
use Rattle.definitions.specs.Analyzers.{Analyzer}
use Rattle.definitions.specs.KeptLengths.{norms_of}
use Rattle.definitions.specs.Schema.{Schema}
use Rattle.definitions.specs.Values.{Document}
use Rattle.postings_writer.specs.Writers.{Writer}
use Rattle.document_indexer.specs.Indexed.{HasRecorded}
use Rattle.document_indexer.specs.declared.document_indexer.DocumentIndexer.{DocumentIndexer}

-- what it recorded
abbrev pub writer_of : DocumentIndexer → Writer
writer_of indexer = indexer.context.writer

-- these documents are indexed: their terms are recorded, and the lengths of their fields are kept
pub record HasIndexed (schema : Schema) (analyze : Analyzer) (indexer : DocumentIndexer) (docs : List Document) : Type 0 where
  pub recorded : HasRecorded schema analyze indexer.context docs
  pub norms_are : indexer.norms ≡ norms_of schema analyze docs
