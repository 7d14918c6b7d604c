-- Lemmas behind values as JSON.
pub mod NumberTexts
pub mod LibraryTexts
pub mod Parts
pub mod QuadTexts
pub mod GroupTexts
pub mod AddressTexts
pub mod PaddedTexts
pub mod Calendar
pub mod GroupsWritten
