pub mod Token
pub mod Calls
pub mod MemoryDevices
pub mod Fuses
pub mod BitSets
pub mod Buffers
