pub mod OnChannel
pub mod Perform
