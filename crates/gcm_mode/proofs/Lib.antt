pub mod Tag
pub mod Counted
pub mod Whole
pub mod Streamed
pub mod GcmStreamed
pub mod Guards
