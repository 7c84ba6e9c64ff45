pub mod ReadBack
pub mod Layouts
