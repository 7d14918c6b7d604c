-- Words of the contracts.
pub mod Written
pub mod Writers
pub mod Sections
pub mod OpenedParts
pub mod Opened
pub mod Killed
pub mod SlotDocuments
pub mod Members
pub mod Slots
pub mod Limits
