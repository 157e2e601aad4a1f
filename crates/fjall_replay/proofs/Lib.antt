mod Adding
mod Putting
mod Stepping
mod Batches
mod LeftCounts
mod Keeping
pub mod ReplayedStores
mod Resting
pub mod Behind
mod Sealing
pub mod Parting
pub mod Following
pub mod Staying
mod Maps
pub mod Turns
pub mod Opening
mod OpenedTables
mod NamedTables
pub mod ListedTables
pub mod KnownHomes
