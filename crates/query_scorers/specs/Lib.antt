-- Words of the contracts.
pub mod Asked
pub mod Scores
-- Words of the contracts.
pub mod Accepted
