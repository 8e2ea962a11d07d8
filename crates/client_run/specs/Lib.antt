pub mod Laws
pub mod Parts
pub mod Meets
pub mod WithWorkers
pub mod Clients
pub mod EndLaws
