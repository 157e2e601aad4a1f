pub mod Heads
mod RunPaging
mod Keyeds
mod Parts
mod Paging
pub mod Orders
mod Reading
pub mod Looping
mod Looks
