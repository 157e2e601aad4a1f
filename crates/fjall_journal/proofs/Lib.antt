mod Fields
mod Entries
mod Rests
mod Changes
pub mod Batches
mod Loops
pub mod Cuts
pub mod Known
pub mod Writing
pub mod Rotating
pub mod Readings
pub mod Wholes
