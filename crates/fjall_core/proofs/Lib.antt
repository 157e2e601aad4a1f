-- The core's lemmas that those above cite.
pub use Rattle.fjall_engine.proofs.AttemptedCommands
pub use Rattle.fjall_engine.proofs.CrashedDisks
pub use Rattle.fjall_engine.proofs.KeptJobs
pub use Rattle.fjall_engine.proofs.KeptMerges
pub use Rattle.fjall_engine.proofs.Reopening
pub use Rattle.fjall_engine.proofs.RunsOverCrashes
pub use Rattle.fjall_engine.proofs.ServedCalls
mod Reading
pub mod Items
pub mod Standing
mod Leading
pub mod Ending
mod Asking
mod Writers
mod Laying
mod Updating
