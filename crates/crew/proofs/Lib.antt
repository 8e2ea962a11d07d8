pub mod Works
pub mod Crews
pub mod OnBoth
pub mod Peering
