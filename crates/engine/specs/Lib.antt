-- What an index and its file are.
pub mod Files
pub mod Indexes
pub mod Hits
pub mod HandedOn
pub mod Merges
pub mod Writes
