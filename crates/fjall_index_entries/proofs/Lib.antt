mod Orders
mod Entries
pub mod Standing
pub mod Index
pub mod Counting
mod Found
mod Finding
pub mod Keeps
pub mod Repairing
pub mod Owning
mod Tallying
