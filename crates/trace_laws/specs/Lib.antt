pub mod DriverNames
pub mod Readable
pub mod Clients
