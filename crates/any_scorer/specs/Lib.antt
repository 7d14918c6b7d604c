-- Words of the contracts.
pub mod Clauses
