pub mod LineFacts
pub mod ChunkFacts
pub mod RunFacts
