pub mod Entries
pub mod Filling
pub mod Causes
pub mod Adding
pub mod Locking
pub mod Splitting
