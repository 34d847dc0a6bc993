pub mod CheckWords
pub mod Comparisons
pub mod CheckPointers
