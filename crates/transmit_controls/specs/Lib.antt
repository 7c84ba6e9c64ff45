pub mod Writes
pub mod States
