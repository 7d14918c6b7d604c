-- Words of the contracts.
pub mod Scored
pub mod Terms
