-- Laws on plain numbers and floats, for the functions' proofs and for the crates above.
pub mod WholeFloats
pub mod RoundOrder
pub mod FactorLaws
pub mod WholeValues
pub mod WholeTests
pub mod DeviationLaws
pub mod WholeLists
pub mod CorrectedRows
pub mod MeanOrder
pub mod CorrectedTheorems
pub mod CorrectedSamples
pub mod DeviationSamples
