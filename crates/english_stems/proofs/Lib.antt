-- Lemmas on the definitions.
pub mod WordLetters
pub mod RuleOrder
