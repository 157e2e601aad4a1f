pub mod Wild
pub mod Memory
pub mod History
pub mod Files
pub mod Failing
pub mod MemoryDisk
