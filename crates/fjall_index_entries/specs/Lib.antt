pub mod Entries
pub mod Index
pub mod Putting
pub mod Keeping
pub mod Finding
pub mod Repairs
pub mod Checking
pub mod Refusals
