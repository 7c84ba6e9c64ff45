pub mod Counts
pub mod Clearing
pub mod Mailboxes
pub mod Fifos
pub mod Entries
