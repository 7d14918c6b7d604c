pub mod TermScores
pub mod Similarities
pub mod ScoredTerms
pub mod BlockScores
pub mod Explaining
pub mod ExplanationNodes
-- Laws that clauses and proofs of types must name.
pub mod TermScoreLaws
pub mod ScoredTermsLaws
