pub mod Laws
pub mod Segments
pub mod Streams
pub mod Guarded
