pub mod Input
pub mod Settle
pub mod Steps
