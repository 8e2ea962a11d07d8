pub mod Name
pub mod Code
pub mod Built
pub mod Reader
pub mod Scan
pub mod Drafts
pub mod Refusal
pub mod Spelled
