pub mod Making
pub mod Pages
pub mod Rounds
