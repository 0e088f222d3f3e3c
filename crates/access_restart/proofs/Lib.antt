pub mod Samples
pub mod Granted
pub mod RoleRestart
pub mod Composed
pub mod RoleHeld
pub mod RoleProgram
pub mod Plain
pub mod Instances
