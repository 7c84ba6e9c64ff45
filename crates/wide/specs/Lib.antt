pub mod Effects
pub mod Refusals
pub mod Rule
pub mod OnModule
pub mod Part
