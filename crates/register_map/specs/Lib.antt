pub mod Map
pub mod Shown
pub mod Turned
pub mod Turns
pub mod Registers
