pub mod Documents
pub mod Uniting
pub mod UnitedRoom
pub mod Windows
pub mod ClearedWords
pub mod Choices
pub mod TwoLeast
pub mod Together
pub mod Signed
-- Laws that clauses and proofs of types must name.
pub mod UnitingLaws
pub mod ChoicesLaws
pub mod ClearingsLaws
pub mod FillingsLaws
pub mod TogetherLaws
pub mod UnitedRoomLaws
