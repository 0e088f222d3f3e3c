pub mod Head
pub mod Calls
pub mod Restore
pub mod Lists
pub mod Counts
pub mod Statistic
pub mod Steps
