pub mod Calls
pub mod Codes
pub mod Ops
pub mod PipePlaces
pub mod Pipes
