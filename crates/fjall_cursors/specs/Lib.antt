pub mod Heads
pub mod Keyed
pub mod RunPages
pub mod Parts
pub mod Runs
pub mod Pages
pub mod Tables
pub mod Leads
