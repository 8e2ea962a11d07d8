pub mod Batches
pub mod Windows
pub mod History
pub mod Laws
