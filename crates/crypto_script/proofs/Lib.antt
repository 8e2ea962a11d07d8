pub mod Answering
pub mod Asking
pub mod Stopping
pub mod Refusing
