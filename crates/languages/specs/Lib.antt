-- What the words of a text are, in the order of the reading.
pub mod Folding
pub mod Characters
pub mod Words
pub mod Plain
pub mod Forms
pub mod Tokens
pub mod Asked
-- Laws that a type must name.
pub mod ScalarLaws
pub mod TokenLaws
pub mod AskedLaws
