pub mod Text
pub mod Trace
pub mod Asks
pub mod Sentences
