pub mod Passes
pub mod Knowledge
pub mod Records
