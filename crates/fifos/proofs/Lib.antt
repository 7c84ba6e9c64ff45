pub mod Fifos
pub mod Marks
pub mod Bounds
