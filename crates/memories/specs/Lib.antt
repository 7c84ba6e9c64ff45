pub mod Matching
pub mod Memories
