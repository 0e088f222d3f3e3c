pub mod Asked
pub mod RoleDemand
pub mod RoleHeld
pub mod RoleProgram
