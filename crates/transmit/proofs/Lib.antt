pub mod Laws
pub mod Spacing
