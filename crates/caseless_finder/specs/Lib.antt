-- What the words of a text are.
pub mod Folding
-- Laws that a type must name.
pub mod FoldingLaws
