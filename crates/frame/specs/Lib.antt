pub mod Layout
pub mod Refusals
pub mod Counters
pub mod Each
