pub mod Plain
pub mod Workers
pub mod Printing
