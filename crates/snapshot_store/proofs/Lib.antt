pub mod Pages
pub mod Writes
pub mod Appended
