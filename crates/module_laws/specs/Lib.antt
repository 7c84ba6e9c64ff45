pub mod Sane
pub mod Reduced
pub mod Need
pub mod Layouts
pub mod Lens
