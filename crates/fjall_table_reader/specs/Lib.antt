pub mod Files
pub mod Places
pub mod Ahead
pub mod Readers
pub mod Spans
pub mod Finds
