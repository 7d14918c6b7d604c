-- Lemmas behind the writing of segments.
pub mod Adding
pub mod SlicesInFront
pub mod BehindPrefixes
-- Lemmas behind segments.
pub mod SectionsBack
pub mod Opening
pub mod TermProps
pub mod OneReading
pub mod KnownSegments
pub mod Reading
pub mod KilledFlags
pub mod StruckRows
pub mod StoredBack
pub mod Fetching
-- Lemmas behind readings.
pub mod BlockReadings
pub mod TermReadings
pub mod SegmentReadings
-- Lemmas on merges of segments.
pub mod Counts
pub mod MergedNorms
pub mod MergedStores
pub mod HeldPostings
pub mod GivenTerms
pub mod MergedTerms
pub mod IndexedTerms
pub mod NumberedMembers
pub mod KeyedMerges
pub mod LongSlots
pub mod MergedSegments
