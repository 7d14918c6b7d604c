-- Lemmas behind front coding.
pub mod SharedKeys
pub mod KeysTaken
pub mod TermsTaken
pub mod TermsLoop
pub mod SharedOrder
pub mod BlockLoop
pub mod WalkSteps
pub mod BlockPlaces
pub mod BlockFound
