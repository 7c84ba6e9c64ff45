pub mod Card
pub mod Gathered
pub mod Judging
