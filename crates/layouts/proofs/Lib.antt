-- Lemmas on the layouts, behind the laws and for the crates above.
pub mod Lists
pub mod PackedTests
pub mod FilesOfRecords
pub mod EntryBounds
pub mod DocumentEntries
