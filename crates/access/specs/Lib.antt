pub mod Access
pub mod Entries
pub mod Isolation
