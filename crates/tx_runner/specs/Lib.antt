pub mod Lines
pub mod Tries
pub mod LineEnds
pub mod Epochs
pub mod Steps
pub mod LineWrites
pub mod OwnThreads
pub mod Below
