pub mod Deviation
pub mod FactorRule
pub mod WholeScores
pub mod Corrected
pub mod Steps
