pub mod Numbers
pub mod PhraseSteps
pub mod QueryForms
pub mod QuerySteps
-- Lemmas behind the laws.
pub mod Orders
-- Lemmas on query trees.
pub mod TermKinds
pub mod Tests
pub mod ScaledBounds
pub mod Depths
pub mod NodeFaults
