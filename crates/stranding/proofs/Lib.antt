-- The orders are all, each once; the counts by a recurrence; the loop's table; computed tables.
pub mod Orders
pub mod Recurrence
pub mod Rows
pub mod Examples
