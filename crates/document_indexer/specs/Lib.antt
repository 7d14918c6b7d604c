-- Words of the contracts.
pub mod Steps
pub mod Runs
pub mod Contexts
pub mod Indexed
pub mod FieldLengths
pub mod Indexers
