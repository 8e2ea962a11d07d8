pub mod RegistryGrowing
pub mod BoardGrowing
pub mod Taking
pub mod Grouping
pub mod Following
pub mod Leading
pub mod References
pub mod First
