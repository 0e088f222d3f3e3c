pub mod AlignmentLaws
pub mod ImputationLists
pub mod ImputationLaws
pub mod ImputationRows
pub mod ImputationTheorems
pub mod ImputationExamples
