pub mod Parts
pub mod Blocks
pub mod Refused
pub mod Each
