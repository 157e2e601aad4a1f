pub mod Lives
-- The words of cores and of engines that clauses cite, so that who stands on lists of calls lists no other crate for them.
pub use Rattle.fjall_core.specs.Commits
pub use Rattle.fjall_core.specs.CoreStanding
pub use Rattle.fjall_core.specs.Crashes
pub use Rattle.fjall_core.specs.Durables
pub use Rattle.fjall_core.specs.Holding
pub use Rattle.fjall_core.specs.Openings
pub use Rattle.fjall_core.specs.Standing
pub use Rattle.fjall_core.specs.Transactions
pub mod Names
pub mod Worlds
pub mod Acting
pub mod Steps
pub mod Serving
pub mod Hearing
