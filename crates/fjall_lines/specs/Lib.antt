pub mod Fills
pub mod Lines
pub mod Hearing
