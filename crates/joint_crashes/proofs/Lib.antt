pub mod CutsRecorded
pub mod Exits
mod TakingOver
