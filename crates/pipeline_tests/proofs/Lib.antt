pub mod Staying
pub mod Chaining
