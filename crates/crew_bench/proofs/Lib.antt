pub mod Readiness
mod Asked
