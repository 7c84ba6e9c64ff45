pub mod Bits
pub mod Apart
