pub mod PhraseTerms
pub mod QueryCodes
pub mod Queries
pub mod NeededTerms
pub mod Nodes
pub mod Walks
-- Laws that clauses and proofs of types must name.
pub mod QueryCodesLaws
pub mod QueryDepthsLaws
