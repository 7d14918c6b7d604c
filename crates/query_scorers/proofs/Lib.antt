-- Lemmas behind the scorers of queries.
pub mod AllDocuments
pub mod AllScores
pub mod AskedPass
pub mod Bounds
pub mod Combined
pub mod ConstantScores
pub mod Earned
pub mod EarnedByClauses
pub mod FormScores
pub mod Results
-- Lemmas behind the weights.
pub mod AcceptedParts
pub mod ScoredParts
