mod Fronts
pub mod Standing
mod Moments
mod Filled
mod Named
mod Holding
mod Trees
mod Emptying
mod Plannings
mod Awaiting
mod Marking
pub mod Begun
mod BeginServed
mod Backs
pub mod Naming
mod Living
mod Homing
mod Halving
mod Cutting
mod Trimming
pub mod Items
mod Ending
mod Beginnings
mod Turns
mod Narrowing
pub mod MendOpened
mod Amidst
mod TurnsAmid
mod Crashing
pub mod Rested
pub mod Mended
pub mod Carrying
pub mod Suiting
mod Sameness
mod CarryingAmid
mod HeldAmid
pub mod MendServed
pub mod Apart
pub mod Removals
pub mod Spared
pub mod Planned
mod Tables
mod Listings
pub mod SweepServed
