-- Lemmas behind the scorers of segments.
pub mod SamePairs
pub mod TermEntries
