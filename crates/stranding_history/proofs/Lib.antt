-- The orders of calls are the history's.
pub mod Calls
pub mod ZeroCalls
pub mod MachineCalls
pub mod Counted
pub mod Examples
