mod CatalogChange
mod NextKeyspaces
mod UnnamedHomes
mod ServableCreations
pub mod Batches
pub mod AppendsAndSyncs
mod SyncedNames
pub mod RootAfterWrites
pub mod CrashesInWrites
pub mod BatchAppends
mod CommandAppends
mod Results
mod JournalFile
pub mod TidyWrites
pub mod ChangesAfterSync
mod ComingAndGoing
pub mod KeepingKeyspaces
pub mod KeptHomes
mod CrashesInRotations
pub mod CrashesInEvictions
pub mod StoredJournals
pub mod MarkedJournals
pub mod CrashedJournals
