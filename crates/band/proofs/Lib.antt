pub mod AddOrder
pub mod Steps
pub mod Upright
pub mod HeldUpright
pub mod Samples
pub mod WrongTurns
