pub mod ValueCodes
pub mod Held
pub mod Docs
pub mod Shown
pub mod CodeHeads
pub mod Owned
pub mod OwnedNodes
pub mod WrittenJson
-- Laws that clauses and proofs of types must name.
pub mod ValueCodesLaws
