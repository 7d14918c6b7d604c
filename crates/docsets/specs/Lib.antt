pub mod Entries
pub mod Danger
pub mod ScoredEntries
pub mod SetEntries
pub mod Bounds
pub mod Combining
pub mod Members
pub mod Distinct
-- Laws that clauses and proofs of types must name.
pub mod EntryLaws
pub mod ScoredEntryLaws
pub mod SetEntryLaws
pub mod CombiningLaws
