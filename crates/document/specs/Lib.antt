-- Documents in memory and as bytes.
pub mod IndexedKinds
pub mod JsonRead
pub mod FieldLists
pub mod NamedDocs
pub mod Shallow
