mod Places
pub mod Numbers
pub mod Histories
pub mod KnownJobs
pub mod Settled
pub mod Collected
pub mod Committing
pub mod Viewing
mod Jobs
mod Beginning
pub mod NewDisks
