pub mod Lookup
pub mod Behind
pub mod Tracking
pub mod Held
pub mod Unique
