pub mod Shuts
pub mod Renewals
pub mod Swings
pub mod Children
pub mod TreeSwings
