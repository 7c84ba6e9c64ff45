pub mod Layout
pub mod Modes
pub mod Ranges
pub mod Refusals
