pub mod Errno
pub mod Streams
pub mod Memory
pub mod Handed
