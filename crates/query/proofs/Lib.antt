-- Lemmas behind what is asked of queries, and which are accepted.
pub mod AddedCounts
pub mod AskedLaws
pub mod SegmentCounts
pub mod Accepting
