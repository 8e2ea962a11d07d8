pub mod Products
pub mod LaneFacts
pub mod Horner
pub mod Words
pub mod PowersOfR
pub mod Groups
pub mod PaddedText
