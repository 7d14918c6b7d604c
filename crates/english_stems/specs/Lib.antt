-- What the stem of a word is, in the order of the reading.
pub mod Letters
pub mod Suffixes
pub mod Regions
pub mod Steps
pub mod Stems
-- A law that a type above must name.
pub mod StemLaws
