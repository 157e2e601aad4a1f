pub mod FlushQueues
pub mod Starting
pub mod Waiting
