mod TrackerEntries
mod TrackerOpenings
mod TrackerSound
pub mod Maps
mod Counts
pub mod Tracking
pub mod Views
pub mod Moving
pub mod Values
mod Items
pub mod Serials
pub mod Growing
pub mod Resting
pub mod Rules
