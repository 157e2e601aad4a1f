mod Adding
mod Blocks
mod Closing
mod Dues
mod Finishing
pub mod Flushing
mod Holding
mod Keeping
mod Looping
pub mod Made
mod Merging
mod Parting
mod Rooms
mod Reading
