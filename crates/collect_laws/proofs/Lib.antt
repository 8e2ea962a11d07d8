pub mod Reading
pub mod Delivering
