pub mod Rests
pub mod Cursors
pub mod ReadIters
pub mod Prefixes
pub mod Guards
pub mod Readers
pub mod Ingestions
pub mod WriteBatches
