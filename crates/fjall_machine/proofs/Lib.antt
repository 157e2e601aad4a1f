pub mod Ascending
pub mod Counting
pub mod Ingesting
pub mod Taking
pub mod Showing
pub mod Writing
pub mod Facts
pub mod Viewing
pub mod SameTrees
pub mod Lawful
pub mod Standing
pub mod Dues
pub mod Refusing
pub mod Moving
pub mod ByHand
mod Older
pub mod Flushing
pub mod Knowing
pub mod Evicting
pub mod Planning
pub mod Finishing
pub mod MergeFinishing
pub mod Sizes
pub mod MergeSizes
mod Working
pub mod TakenIngestions
pub mod MergesLawful
pub mod MergeSettings
mod MergedTables
pub mod Merging
pub mod BesideMerges
mod MergeRefusing
mod MergesStayOut
mod StoreSteps
mod KeptMerges
pub mod KnownMerges
pub mod QuietSteps
