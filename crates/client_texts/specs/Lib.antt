pub mod OneList
pub mod Outputs
pub mod Laws
