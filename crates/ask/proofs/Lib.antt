-- Lemmas behind what is asked and how it is weighed.
pub mod Asked
pub mod EachWeighted
pub mod Heaviest
