pub mod Settled
pub mod PlainRuns
pub mod PrintedText
pub mod Examples
