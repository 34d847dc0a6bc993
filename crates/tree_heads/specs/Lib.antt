pub mod Headers
pub mod Keeps
pub mod Heads
pub mod NewPages
pub mod Splits
pub mod Checks
