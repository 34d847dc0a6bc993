pub mod Keeping
pub mod Causes
