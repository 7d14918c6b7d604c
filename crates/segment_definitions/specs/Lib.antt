-- How segments and the records that list them stand as bytes.
pub mod Slots
pub mod Keys
pub mod Segments
pub mod ListBodies
pub mod IndexFiles
pub mod SegmentExamples
-- The lists that an index stands on: documents that may be dead, and what waits for a commit.
pub mod Rows
pub mod Waiting
pub mod Found
