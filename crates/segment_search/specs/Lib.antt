-- Words of the contracts.
pub mod Flags
pub mod Best
pub mod Counted
pub mod CountedWeights
pub mod Hits
pub mod Answered
