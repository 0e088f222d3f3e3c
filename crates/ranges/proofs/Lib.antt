-- Laws on ranges for the functions' proofs and for the crates above.
pub mod RangeExamples
pub mod RangeLaws
pub mod RangeSteps
