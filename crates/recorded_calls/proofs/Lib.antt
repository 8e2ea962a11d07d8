pub mod Asking
pub mod Looking
pub mod Boarding
pub mod BoardCalls
pub mod HandedOut
pub mod Sharings
pub mod Lendings
pub mod Gathers
