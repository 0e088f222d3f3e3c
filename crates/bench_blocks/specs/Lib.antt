pub mod Whole
pub mod Blocks
pub mod Turns
pub mod Program
pub mod Steps
