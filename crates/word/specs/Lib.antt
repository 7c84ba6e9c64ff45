pub mod Word
pub mod Parity
pub mod Gap
pub mod Fields
