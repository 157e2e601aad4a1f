mod Texts
mod Loops
pub mod Records
mod RecordCodecs
pub mod Currents
pub mod Views
pub mod Naming
pub mod Resting
pub mod Runs
pub mod Removals
pub mod Writings
mod HomeRecords
pub mod Commits
mod NoFolders
pub mod Meanings
pub mod Outside
pub mod Standing
pub mod Openings
pub mod CatalogNaming
pub mod CatalogResting
mod CatalogRuns
pub mod Serving
mod Changes
pub mod Shapes
pub mod CatalogMeanings
pub mod Pairs
mod Written
mod Lasts
mod Readings
