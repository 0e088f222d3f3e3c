-- Definitions that private contracts cite: nothing that a public promise or a theorem rests on.
pub mod Blocks
pub mod Timestamps
pub mod Passes
pub mod Inverting
pub mod Rows
pub mod Learning
pub mod Sound
pub mod Told
