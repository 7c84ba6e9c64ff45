pub mod Bench
pub mod Given
pub mod Asyncs
pub mod Run
pub mod Record
pub mod Verdict
pub mod Rules
pub mod Samples
