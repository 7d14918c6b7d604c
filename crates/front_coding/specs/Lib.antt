-- Words of the contracts.
pub mod TakenKeys
pub mod LookUps
pub mod Walks
pub mod BlockPlaces
pub mod Lengths
