pub mod Bytes
mod Spellings
mod Cuts
mod Batches
mod Filling
