pub mod Wakeups
pub mod Laws
pub mod Queued
pub mod Words
pub mod Examples
