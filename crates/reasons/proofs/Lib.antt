pub mod Lists
pub mod Following
pub mod Refusing
pub mod Reason
pub mod Answering
pub mod Theorem
