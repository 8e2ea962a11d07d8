pub mod Alpha
pub mod Eight
pub mod Units
pub mod Stealing
pub mod DataUnit
