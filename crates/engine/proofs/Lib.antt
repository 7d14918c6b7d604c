-- Lemmas behind the index and its file.
pub mod FileSayings
pub mod ListsLeft
pub mod Commits
pub mod Adding
pub mod Readings
pub mod Merges
pub mod LeastCommit
pub mod SegmentWrites
