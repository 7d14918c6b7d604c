-- What the codes stand for: packed blocks, positions, the lengths of fields, and skip entries.
pub mod BlockFields
pub mod DecodedBlocks
pub mod UnpackedBlocks
pub mod PositionPlaces
pub mod PositionBlocks
pub mod FieldNorms
pub mod FieldNormReaders
pub mod SkipBlocks
