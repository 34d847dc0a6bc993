pub mod Seals
pub mod Below
pub mod Swings
pub mod Notes
