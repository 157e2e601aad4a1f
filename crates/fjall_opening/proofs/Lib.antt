mod Suited
mod SuitedAmid
mod Keeping
mod Rooted
mod Agreeing
mod Repairing
mod Numbering
mod Fitting
mod Replayed
mod Sealings
mod Taking
mod OpenedTrees
pub mod Openings
mod JournalByJournal
mod JournalsLeft
mod Amid
mod Counting
