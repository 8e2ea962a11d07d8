pub mod Bounds
pub mod Keeps
pub mod Runs
pub mod QueuedRuns
pub mod Words
pub mod Examples
