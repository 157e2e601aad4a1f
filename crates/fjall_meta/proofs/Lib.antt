mod Options
pub mod Changes
pub mod Rising
pub mod Orders
mod Faults
mod Entries
mod Keys
pub mod Alike
mod Grouping
mod States
mod Distinct
mod Back
mod Searches
mod Without
pub mod ContentFaults
pub mod Slots
pub mod LivingContents
mod Replaying
pub mod Newest
pub mod Writes
mod Behind
pub mod Creating
pub mod Kept
pub mod Keeping
pub mod Found
pub mod Ids
pub mod Naming
pub mod Viewing
pub mod Beyond
mod Commanding
pub mod Following
pub mod Keyspacing
pub mod Held
pub mod ContentSearches
