-- How documents, lists and files stand as bytes.
pub mod Deltas
pub mod PackedBlocks
pub mod PackedBytes
pub mod VintBlocks
pub mod FieldNorms
pub mod AliveSets
pub mod Positions
pub mod SkipEntries
pub mod TermPostings
pub mod TermSections
pub mod InvertedIndexes
pub mod TermExamples
pub mod DocumentBytes
pub mod DocumentReading
pub mod RecordFiles
pub mod RecordBodies
pub mod Stores
