-- Documents are read back from what is printed of them.
pub mod Given
pub mod Keys
pub mod Texts
pub mod Addresses
pub mod DateTexts
pub mod Days
pub mod Dates
pub mod Members
pub mod Values
pub mod Reading
pub mod FieldValues
pub mod Documents
