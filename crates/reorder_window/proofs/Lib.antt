pub mod Adding
pub mod Batching
pub mod InOrder
pub mod Tests
