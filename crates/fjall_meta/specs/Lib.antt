pub mod Keyspaces
pub mod Entries
pub mod Reading
pub mod Replays
pub mod Versions
pub mod Views
pub mod Contents
