pub mod Labels
pub mod Places
-- Words of transactions that clauses cite, for those above.
pub use Rattle.fjall_core.specs.CoreStanding
pub use Rattle.fjall_core.specs.Holding
pub use Rattle.fjall_core.specs.Standing
pub use Rattle.fjall_core.specs.Transactions
pub mod Takings
pub mod Locked
pub mod Does
pub mod Openings
pub mod Within
