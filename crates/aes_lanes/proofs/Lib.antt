pub mod Lookups
pub mod Halves
pub mod Mixing
pub mod Sides
pub mod KeyVectors
mod Terms
mod Transposed
mod RowsMixed
mod RowKeyVectors
mod TowerKeyVectors
mod RowsUnsealed
mod SealingTerms
mod Shifted
mod RowsSealed
mod OneSealed
mod PairKeyVectors
mod PairSealed
