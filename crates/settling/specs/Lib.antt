pub mod Settling
pub mod Steps
