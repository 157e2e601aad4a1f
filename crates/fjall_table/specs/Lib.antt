pub mod Frame
pub mod Reading
pub mod Blocks
pub mod Tables
pub mod Writing
pub mod TableReading
pub mod Padded
pub mod Owned
