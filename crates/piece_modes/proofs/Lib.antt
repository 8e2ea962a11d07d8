pub mod Fronts
pub mod Hashed
pub mod Openings
pub mod Parts
pub mod Tags
