-- The table's rule, and the laws for the function's proof and for the crates above.
pub mod Entries
pub mod Samples
