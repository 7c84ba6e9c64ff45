pub mod Accepted
pub mod Exact
pub mod Late
pub mod Refused
