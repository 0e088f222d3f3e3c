pub mod Handed
pub mod Program
pub mod Instances
pub mod EveryCall
