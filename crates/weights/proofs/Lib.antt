-- Lemmas behind the weights.
pub mod FedLaws
pub mod WeighedLaws
pub mod LeafLaws
pub mod UnscoredLaws
pub mod GivenLaws
pub mod TreeLaws
