-- Lemmas behind searches.
pub mod AnswersGiven
pub mod BestAddresses
pub mod BestFound
pub mod BlocksCounted
pub mod Flagging
pub mod Flags
pub mod HitsRead
pub mod Places
pub mod PlannedPlaces
pub mod RowsRead
