pub mod TableFiles
pub mod FileScans
mod Places
mod Searches
mod Fronted
mod Spans
pub mod Readers
pub mod Several
