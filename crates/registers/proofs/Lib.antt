pub mod Masks
pub mod Values
