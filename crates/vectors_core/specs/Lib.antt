pub mod Digits
pub mod Line
pub mod Old
pub mod Tally
