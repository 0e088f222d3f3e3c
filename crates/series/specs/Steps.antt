-- Definitions that only private contracts cite.
pub mod Comparing
pub mod AlignmentRows
pub mod ImputationSteps
pub mod Walking
