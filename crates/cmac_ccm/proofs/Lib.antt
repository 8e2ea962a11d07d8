pub mod Chains
pub mod Fields
pub mod Associated
pub mod Opened
pub mod LastBlock
pub mod Streamed
