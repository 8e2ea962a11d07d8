pub mod HashedBlocks
mod InStep
mod Majority
mod Matrix
mod Messages
mod Rows
mod Schedules
mod Steps
