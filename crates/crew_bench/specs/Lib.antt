pub mod Ready
pub mod Learned
