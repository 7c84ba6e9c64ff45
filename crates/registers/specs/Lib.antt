pub mod Masked
pub mod Access
