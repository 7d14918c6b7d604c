pub mod Terms
-- What settings keep, as the definitions have it, and terms by the JSON of their values.
pub mod Weights
