pub mod Line
pub mod Theorem
