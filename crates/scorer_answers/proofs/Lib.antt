-- Lemmas behind what is done with scorers.
pub mod AliveRows
pub mod CountedRows
pub mod EntryCounts
pub mod FlagCounts
pub mod Held
pub mod LivingCounts
pub mod Places
pub mod ScoresThere
pub mod Signs
pub mod AnswerLaws
