pub mod Codes
pub mod Output
pub mod Schedule
pub mod Spacing
