pub mod Words
pub mod Frames
pub mod Lists
pub mod Damages
pub mod BlockParts
pub mod TableWriting
pub mod TableLaws
mod Footers
pub mod Indexes
pub mod TableReading
pub mod Lookups
pub mod TableBlocks
pub mod TableScans
pub mod Fronts
mod Copies
