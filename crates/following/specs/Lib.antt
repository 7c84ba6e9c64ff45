pub mod Reasons
pub mod Course
pub mod Follows
