pub mod OffsetOrder
pub mod Clauses
pub mod Nodes
pub mod AllNodes
pub mod CopiedNodes
