pub mod Effects
pub mod Spacing
pub mod Listing
