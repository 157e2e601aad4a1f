pub mod Changes
pub mod Flushed
pub mod Ingested
mod Inputs
pub mod Merged
pub mod Outstanding
mod Paging
mod Puts
mod Searches
pub mod Several
mod Shows
pub mod Staying
