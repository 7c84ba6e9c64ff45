pub mod Captures
pub mod Format
pub mod Laws
pub mod Numbers
pub mod Old
pub mod Read
pub mod Write
