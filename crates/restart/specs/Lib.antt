pub mod Statistics
pub mod History
pub mod Chronicle
pub mod Statement
pub mod Held
