pub mod LivedDisks
pub mod LastSyncs
mod WildTidying
pub mod Lives
-- The lemmas on crashes in runs that those above cite.
pub use Rattle.fjall_engine.proofs.CrashesInRuns
-- Their lemmas that those above cite.
pub use Rattle.fjall_core.proofs.CrashedDisks
pub use Rattle.fjall_core.proofs.Items
pub use Rattle.fjall_core.proofs.Reopening
pub use Rattle.fjall_core.proofs.RunsOverCrashes
pub use Rattle.fjall_core.proofs.Standing as CoreStanding
mod Same
mod Chains
mod Jobs
mod Runs
mod SoFar
mod Worlds
mod Names
mod Acting
mod Looking
mod Beginning
mod Quiet
mod Listed
mod Ending
pub mod Lists
pub mod Following
pub mod Marking
mod Answering
pub mod Commits
pub mod KeptWorlds
pub mod Standing
mod Writing
