pub mod Bytes
pub mod Line
pub mod Token
pub mod Listed
