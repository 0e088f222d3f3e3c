pub mod Laws
pub mod Isolation
pub mod Examples
