pub mod Listed
pub mod Performed
