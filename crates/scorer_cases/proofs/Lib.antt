-- Lemmas behind the cases.
pub mod GreatestOnes
pub mod NestedScores
pub mod TermsWithPositions
pub mod SameDocuments
