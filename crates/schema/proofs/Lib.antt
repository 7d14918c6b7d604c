pub mod FieldNames
pub mod FieldSplits
pub mod ReadBack
pub mod ReadKinds
pub mod LengthFields
pub mod Positions
