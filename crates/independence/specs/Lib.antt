pub mod Names
pub mod Theorem
