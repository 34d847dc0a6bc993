pub mod Fills
pub mod Extends
pub mod Publishes
