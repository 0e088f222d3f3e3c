pub mod Orders
pub mod Standing
pub mod Counts
pub mod Steps
