pub mod PrintLaws
pub mod TurnLaws
pub mod StepLaws
pub mod CellLaws
pub mod Examples
