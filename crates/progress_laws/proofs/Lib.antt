pub mod Spent
pub mod Sums
pub mod Going
pub mod Wanted
pub mod Builders
