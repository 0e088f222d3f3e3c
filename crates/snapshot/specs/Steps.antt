-- Definitions that only private contracts cite.
pub mod Scan
pub mod Write
pub mod Judge
pub mod Likely
pub mod Runs
pub mod TwoParts
