mod Refusals
pub mod CrashesInRuns
mod ApproximateLengths
pub mod AttemptedCommands
pub mod RunsOverCrashes
mod ResolvedRuns
mod CrashImages
mod KeyspacesUnchanged
mod KnownHomes
mod KnownFlushes
mod KnownBatches
mod KnownCores
mod JournalWrites
mod Syncs
mod TablesAtHome
mod KeptEntries
mod LookedDisks
mod QuietReads
mod ReadCalls
mod RootUnchanged
mod CatalogChanges
mod NextNumbers
mod CatalogOnDisk
mod KeyspaceCalls
mod OwedStates
mod OwedMerges
mod OwedWork
pub mod OwedSteps
mod GoneFlushes
mod FoundJobs
pub mod KeptJobs
pub mod KeptMerges
mod DeviceFaults
pub mod ServedCalls
mod TicketCalls
mod RotationCalls
mod PartOutcomes
mod WriteCalls
mod CallsInMemory
mod Persists
mod Releases
mod CatalogTables
mod Creations
mod CreationCalls
mod Deletions
mod Closings
mod Opening
pub mod CrashedDisks
pub mod Reopening
mod JournalRotations
mod PutFlushes
mod MadeFlushes
mod FlushesOnDisk
mod FlushedTables
mod FinishedFlushes
mod BegunFlushes
mod FlushBegins
mod MergesOut
mod MergeBegins
mod Evictions
mod IngestionSyncs
mod IngestionWrites
mod IngestionTables
mod IngestionSettles
mod IngestionSteps
mod IngestionCalls
mod PutIngestions
mod IngestionRefusals
mod PutMerges
mod MadeMerges
mod MergesOnDisk
mod MergedTables
mod FinishedMerges
mod RecordedTables
mod WildCrashes
mod LookedUpTrees
