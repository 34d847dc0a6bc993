pub mod Endings
pub mod Entry
