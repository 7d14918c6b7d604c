-- Words of the contracts.
pub mod Rows
pub mod Matching
pub mod Listed
pub mod Earned
