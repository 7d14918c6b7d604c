-- Lemmas behind histories of an index.
pub mod Calling
pub mod Devices
pub mod Beginnings
pub mod Following
pub mod GivenLists
pub mod Scans
