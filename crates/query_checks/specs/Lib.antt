pub mod QueryNames
pub mod ReadPhrases
pub mod ReadQueries
-- Words of the contracts.
pub mod Orders
-- What query trees are, as the definitions have them.
pub mod Ranges
