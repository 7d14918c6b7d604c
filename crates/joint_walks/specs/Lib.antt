-- Words of the contracts.
pub mod Counted
pub mod Together
