pub mod Progress
pub mod Builders
