-- Lemmas behind walks of unions, behind phrases of two terms, and behind the weights of plain queries.
pub mod PlainWeights
pub mod TwoTerms
pub mod UnionLengths
