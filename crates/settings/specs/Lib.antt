pub mod Factory
pub mod Settings
pub mod Kept
