pub mod Telling
pub mod Passing
pub mod Counting
