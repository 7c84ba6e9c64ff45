pub mod Signals
pub mod Performed
pub mod Answered
