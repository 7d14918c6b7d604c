-- What values are read and printed as, beside the definitions.
pub mod Dates
pub mod DateParts
pub mod Leaves
