pub mod Registry
pub mod Pipelines
pub mod Laws
