-- The list that a learn may be given stands with the rows that read it; the crates above cite it here.
pub use Rattle.trcf_rows.specs.Given.{list_in}
