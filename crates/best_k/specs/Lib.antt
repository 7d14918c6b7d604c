-- Words of the contracts.
pub mod Kept
pub mod Ranked
pub mod Contents
-- Laws that the type of `BestK` must name.
pub mod KeptLaws
