-- Lemmas on the definitions.
pub mod RunWords
pub mod RunTokens
pub mod PlainWords
pub mod AsciiWords
pub mod Meetings
pub mod AskedTokens
