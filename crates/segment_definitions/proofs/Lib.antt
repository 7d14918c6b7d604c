-- Lemmas on segments and the bodies that list them.
pub mod SegmentParts
pub mod SegmentDocs
pub mod DocumentKeys
pub mod LeastSegment
pub mod AliveFlags
pub mod OneList
pub mod BareFile
pub mod BookSegment
pub mod UnstoredSegment
pub mod NewSegments
-- Lemmas behind the laws of rows.
pub mod RowsLeft
pub mod Deletings
pub mod Commits
pub mod Merges
pub mod FoundLive
