pub mod Listed
pub mod Gathering
mod Looking
pub mod Telling
mod Homing
pub mod Alone
mod Finishing
mod Beginnings
mod Opened
pub mod Kept
pub mod Strict
mod Numbers
pub mod Causes
pub mod Housing
pub mod Storing
pub mod Shown
pub mod Composing
pub mod Named
mod Seen
pub mod Trees
pub mod Roots
pub mod Holding
pub mod Changing
pub mod Alike
pub mod Amidst
mod WildBeginnings
pub mod Cutting
pub mod Texts
pub mod Forging
pub mod Covering
mod Tables
pub mod Folders
pub mod Longer
pub mod Forged
