-- Words of the contracts.
pub mod Weighing
pub mod Boosted
pub mod Unscored
pub mod Trees
pub mod Given
pub mod AnyForms
