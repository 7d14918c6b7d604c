pub mod Blocks
pub mod BlocksLeft
pub mod Feeding
pub mod Unions
pub mod Meets
