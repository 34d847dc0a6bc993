-- What each act keeps.
pub mod Keeps
pub mod Resting
pub mod Places
pub mod Clock
pub mod Checking
pub mod Deciding
pub mod Moving
