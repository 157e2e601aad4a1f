pub mod Holding
pub mod CallParts
pub mod Durables
pub mod Crashes
pub mod Standing
pub mod Openings
pub mod Jobs
