pub mod Host
pub mod Version
