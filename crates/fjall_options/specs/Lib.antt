pub mod Reading
pub mod Policies
pub mod Options
