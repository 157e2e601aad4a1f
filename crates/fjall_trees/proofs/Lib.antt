pub mod Changing
mod Counting
mod Ingested
mod Bounded
mod Marking
pub mod Others
pub mod Outstanding
pub mod Places
pub mod Pushing
pub mod Reading
mod Rooms
pub mod Same
mod Sealed
mod Searches
mod Above
pub mod Alike
pub mod Bare
pub mod Changed
pub mod Commands
pub mod Dropped
pub mod Emptied
pub mod Finished
pub mod IngestedMaps
mod Items
pub mod Older
mod Parts
pub mod Planted
pub mod Pushed
pub mod Puts
pub mod MapReading
pub mod Rotated
pub mod Stores
