pub mod Submitting
pub mod Ordered
pub mod OneOutput
