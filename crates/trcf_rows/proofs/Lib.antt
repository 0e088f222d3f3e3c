pub mod NewestLaws
pub mod RowWays
