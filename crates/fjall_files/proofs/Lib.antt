mod Numbers
mod Partings
mod LastDots
mod Folders
mod Headers
mod Collecting
mod Refusing
pub mod Distinct
pub mod Tidying
pub mod OfKinds
pub mod Trimmed
pub mod Under
pub mod Wider
pub mod Changes
pub mod Parts
pub mod Made
mod Removed
pub mod Fitting
pub mod Serving
pub mod FilesRead
pub mod OwnEntries
mod Raising
pub mod Going
pub mod Evicting
mod Rotating
pub mod Telling
mod Placing
pub mod Raised
