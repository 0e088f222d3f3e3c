pub mod SignalLaws
pub mod StepLaws
pub mod Theorem
