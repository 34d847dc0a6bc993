pub mod Cuts
pub mod Counts
pub mod Clock
pub mod Gathered
pub mod Between
pub mod Resting
