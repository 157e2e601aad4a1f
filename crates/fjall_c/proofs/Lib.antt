-- The lemmas of the calls.
pub mod Going
pub mod Opening
pub mod Packing
pub mod Reading
pub mod Telling
