pub mod LaneFacts
pub mod Written
pub mod Shifts
