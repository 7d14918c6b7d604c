-- Lemmas behind the walks and counts of compound queries.
pub mod BestAnswers
pub mod ClauseAnswers
pub mod KeptScorers
