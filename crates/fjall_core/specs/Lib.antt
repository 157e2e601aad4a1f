-- The core's words that clauses cite, so that who stands on transactions lists no core.
pub use Rattle.fjall_engine.specs.Crashes
pub use Rattle.fjall_engine.specs.Durables
pub use Rattle.fjall_engine.specs.Holding
pub use Rattle.fjall_engine.specs.Jobs
pub use Rattle.fjall_engine.specs.Openings
pub use Rattle.fjall_engine.specs.Standing as CoreStanding
pub use Rattle.fjall_engine.specs.declared.jobs.Job as CoreJob
pub mod Alike
pub mod Leaving
pub mod Shown
pub mod ReadsGoing
pub mod Transactions
pub mod Commits
pub mod Standing
pub mod Writers
pub mod Laid
pub mod Seeing
pub mod OwnReadsGoing
pub mod Updating
