pub mod Rarity
pub mod Served
pub mod Sought
pub mod Views
pub mod WholeWords
