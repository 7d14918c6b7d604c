-- Lemmas behind the scorers.
pub mod Bounded
pub mod ByClauses
pub mod ByScores
pub mod OneDocument
pub mod SameGreatest
pub mod SamePairs
