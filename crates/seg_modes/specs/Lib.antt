pub mod Ctr
pub mod Cbc
