-- Words of the contracts.
pub mod DecodedBlocks
pub mod Deletions
pub mod Flags
pub mod Hits
pub mod Given
pub mod Bodies
pub mod Limits
pub mod Pending
pub mod NewSegments
pub mod Statuses
pub mod Parts
pub mod Standing
pub mod Commits
pub mod CommitRecords
pub mod Merges
pub mod Records
-- Laws that clauses and proofs of types must name.
pub mod FlagsLaws
