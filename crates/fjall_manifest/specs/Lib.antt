pub mod Records
pub mod Homes
pub mod Changes
pub mod Reading
pub mod Catalog
pub mod Updates
pub mod Refusals
