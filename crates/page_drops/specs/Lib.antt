pub mod Works
pub mod Leaves
pub mod Inner
pub mod Visits
pub mod Calls
pub mod Swings
