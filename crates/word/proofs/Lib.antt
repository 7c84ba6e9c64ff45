pub mod Branches
pub mod Computed
pub mod Laws
pub mod Parts
