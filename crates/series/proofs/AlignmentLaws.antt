-- Laws behind `alignment`, its theorems, and computed examples.
pub mod Fronts
pub mod Turns
pub mod Chain
pub mod Falls
pub mod Greedy
pub mod Best
pub mod Walk
pub mod Written
pub mod Channels
pub mod Comparing
pub mod Compared
pub mod Absolute
pub mod Rows
pub mod Sizes
pub mod Theorem
pub mod Examples
