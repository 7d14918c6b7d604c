-- What is said of a file.
pub mod Lines
pub mod ReadBack
pub mod Ends
pub mod Records
pub mod Contents
pub mod Documents
pub mod Reasons
pub mod Sound
