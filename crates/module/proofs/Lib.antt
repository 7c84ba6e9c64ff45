pub mod Sampled
pub mod Accepted
pub mod Values
