pub mod Trees
pub mod Out
pub mod Shapes
pub mod Ingestions
pub mod Jobs
pub mod Pages
pub mod Puts
