pub mod TermWriting
pub mod FieldWriting
-- Words of the contracts.
pub mod OccurrenceBytes
pub mod Occurrences
pub mod Recorders
pub mod PackedKeys
pub mod Fields
pub mod Writers
pub mod Texts
pub mod Serializing
pub mod Limits
pub mod Sections
