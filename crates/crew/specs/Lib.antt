pub mod BoardWork
pub mod Crews
pub mod Both
pub mod Peers
