-- Words of the contracts.
pub mod Replies
pub mod Hits
