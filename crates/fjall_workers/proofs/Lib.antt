mod Queues
pub mod Starting
pub mod Sealings
