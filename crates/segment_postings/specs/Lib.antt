pub mod Reading
pub mod TermEntries
pub mod CountBounds
pub mod Ahead
pub mod Cursors
pub mod BoundedBlocks
-- Words of the contracts.
pub mod Blocks
pub mod Terms
pub mod Placed
-- Laws that clauses and proofs of types must name.
pub mod ReadingLaws
pub mod AheadLaws
pub mod TermEntryLaws
pub mod CursorsLaws
pub mod BoundedBlockLaws
