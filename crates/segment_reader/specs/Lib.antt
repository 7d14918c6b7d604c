-- Words of the contracts.
pub mod Dictionaries
pub mod KeptTerms
pub mod Searching
pub mod TermPlaces
pub mod ToldFields
pub mod FieldKinds
pub mod CheckedTerms
pub mod FieldDictionaries
pub mod OpenedTerms
pub mod Readers
pub mod NewCursors
pub mod Flags
pub mod Together
pub mod SegmentReaders
pub mod Searchers
pub mod Scorings
pub mod LengthIds
-- Laws that clauses and proofs of types must name.
pub mod FlagsLaws
