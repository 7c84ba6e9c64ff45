pub mod Addresses
pub mod Places
