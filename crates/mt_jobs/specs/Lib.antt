pub mod Jobs
pub mod Pieces
