pub mod Layout
pub mod Segments
pub mod Stepped
