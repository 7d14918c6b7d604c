-- Words of the contracts.
pub mod DecodedBlocks
pub mod TermWeights
pub mod ReadTerms
pub mod PhraseWeights
pub mod Suffixes
pub mod PlacedAnswers
pub mod PhrasePrefixWeights
pub mod Weighed
