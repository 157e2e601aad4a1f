pub mod Clears
pub mod Hiding
pub mod Merging
mod Needed
pub mod NewestSeen
pub mod Once
pub mod Sameness
pub mod Shown
pub mod Tests
pub mod Writing
pub mod Fronts
pub mod Orders
mod Absents
mod Texts
mod Puts
mod Finds
mod Ranges
mod Newest
pub mod Barriers
pub mod Keeping
pub mod SortedOrders
mod Paging
mod PagingBack
pub mod SortedRanges
pub mod Sorting
pub mod Taking
pub mod Viewing
pub mod Apart
pub mod PartBarriers
pub mod Changes
pub mod PartFinds
pub mod Onces
