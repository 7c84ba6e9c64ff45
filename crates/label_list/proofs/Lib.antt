pub mod Lists
pub mod Divisors
