pub mod Bounds
pub mod Passes
pub mod RegistryCalls
pub mod Looks
pub mod Pipelines
pub mod SharedCalls
