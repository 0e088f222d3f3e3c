pub mod Line
pub mod Bench
pub mod Run
