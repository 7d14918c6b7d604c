-- Lemmas behind what scorers of clauses have together.
pub mod ClauseDocuments
pub mod ClauseLists
pub mod Lifetimes
