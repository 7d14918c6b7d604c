pub mod AddressBits
pub mod JsonValues
pub mod TermPaths
pub mod ValueTerms
-- Lemmas behind settings.
pub mod NormsInOrder
pub mod WeightsByTerms
