pub mod Words
pub mod Registered
pub mod Asking
pub mod Events
pub mod ClientEvents
