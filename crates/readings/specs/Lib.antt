pub mod Refusals
pub mod Listed
pub mod Reading
pub mod Encoding
pub mod Units
