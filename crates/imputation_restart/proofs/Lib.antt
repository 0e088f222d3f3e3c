-- The theorem, and its instance.
pub mod Filled
pub mod Instances
