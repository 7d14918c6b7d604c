-- Words of the contracts.
pub mod Fed
pub mod Same
