mod Layers
mod Covered
mod Once
mod FlushAfterRecords
mod FlushAfterHomes
pub mod NewTables
pub mod FlushReading
mod Putting
pub mod Beside
pub mod Composed
pub mod FlushSameStore
pub mod SameNumber
mod Taken
pub mod FlushFinishing
mod Tables
pub mod Room
mod Refusing
pub mod Right
mod Silence
mod Batch
mod Storing
mod Numbers
mod Crashes
mod Following
pub mod WholeMemory
mod WholeBetween
mod WholeAfter
pub mod WholeLaws
pub mod Preparing
mod NoFolders
pub mod Behind
mod Shows
pub mod MergeAfterRecords
mod MergeAfterHomes
pub mod MergeSameStore
mod Naming
mod MergeReading
mod Writings
mod Written
pub mod Taking
pub mod MergeFinishing
