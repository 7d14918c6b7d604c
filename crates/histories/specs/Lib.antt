-- What happens to an index, and what stands then.
pub mod Calls
pub mod Events
pub mod Leading
pub mod Lists
