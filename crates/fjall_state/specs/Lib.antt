pub mod Flushes
pub mod Changes
