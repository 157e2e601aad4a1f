pub mod Opened
pub mod Replaying
pub mod Readings
