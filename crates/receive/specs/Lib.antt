pub mod Entries
pub mod Arrived
pub mod Fates
