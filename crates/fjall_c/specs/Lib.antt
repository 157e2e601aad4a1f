-- What the contracts of the calls cite.
pub mod Answers
pub mod Calls
pub mod Changes
pub mod Handles
pub mod Live
pub mod Openings
pub mod Transactions
