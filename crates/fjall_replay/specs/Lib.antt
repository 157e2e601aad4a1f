pub mod Beside
pub mod Parted
pub mod Replayed
pub mod Steps
pub mod Known
pub mod Opening
