pub mod Changes
pub mod Removals
pub mod Given
pub mod Journaling
pub mod Rotations
pub mod Evictions
pub mod Watermarks
pub mod SyncedChanges
