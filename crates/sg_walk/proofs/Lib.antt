pub mod Cutting
pub mod Joined
pub mod Steps
