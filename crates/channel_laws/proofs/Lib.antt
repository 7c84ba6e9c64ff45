pub mod Holds
pub mod Changes
pub mod Calls
pub mod Resets
pub mod Spacing
pub mod Marks
pub mod Listing
