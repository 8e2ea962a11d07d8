pub mod Summing
pub mod Passing
pub mod Values
pub mod Loads
