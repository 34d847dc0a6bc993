pub mod Smallest
pub mod Heads
pub mod Below
pub mod Rows
pub mod Belows
