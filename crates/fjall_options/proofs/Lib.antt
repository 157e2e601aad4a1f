mod Spelled
pub mod OptionTables
pub mod StoredPairs
