mod StorageKinds
mod Arrays
mod Touched
mod Causes
mod Ran
mod LastLaws
mod Sums
mod Answered
mod Standing
mod Commits
mod Refusals
pub mod Words
mod Clocks
mod LoadedMarks
