pub mod Signs
pub mod Bits
pub mod Digits
