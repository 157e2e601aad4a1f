pub mod Alike
pub mod Consistency
pub mod Links
pub mod Serial
-- The words of lives that clauses above cite, so that who stands on this crate lists no other one for them.
pub use Rattle.fjall_calls.specs.Lives
