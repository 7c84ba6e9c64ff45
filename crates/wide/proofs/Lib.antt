pub mod Accepted
pub mod Laws
pub mod Places
pub mod Stored
pub mod Told
