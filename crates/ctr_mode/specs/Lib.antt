pub mod Laws
pub mod Streams
pub mod Texts
