pub mod Kinds
pub mod IpAddrs
pub mod JsonPaths
pub mod Steps
pub mod TextKeys
