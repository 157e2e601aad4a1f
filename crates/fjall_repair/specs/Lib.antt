pub mod Making
pub mod Plans
pub mod Begun
pub mod Mended
pub mod Steps
pub mod Amids
pub mod Listing
pub mod Sweeps
