pub mod Run
pub mod History
pub mod Ledger
pub mod Answers
pub mod Agrees
pub mod Theorem
pub mod Beyond
pub mod Untouched
