pub mod Marks
pub mod Theorem
