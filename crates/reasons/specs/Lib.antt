pub mod Refusals
pub mod Sentences
pub mod Question
pub mod Followed
pub mod Explained
pub mod Theorem
